use Rattle.std.proofs.Common.{◌≡◌, ◌++◌, drop}
use Rattle.condition_text.specs.Texts.{terms_text}
use Rattle.condition_text.proofs.naming.Naming.put_terms.Given as goal

-- what is left to put makes the whole
abbrev pub invariant-loop-term : goal.invariant-loop-term
invariant-loop-term l =
    l.text.items ++ terms_text l.self.names.now l.self.objects.now (drop l.term-index l.terms)
    ≡ l.initial.text.items ++ terms_text l.self.names.now l.self.objects.now l.terms
