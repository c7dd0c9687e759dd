use Rattle.std.proofs.Common.{◌≡◌, ◌∷◌, ◌∙◌, refl, subst, arith}
use Rattle.sexpr_text.specs.declared.scanner.Lexeme.TheVariants as lexemes
use Rattle.sexpr_text.specs.Tokens.{Token}
use Rattle.sexpr_text.specs.Reading.{levels, opened}
use Rattle.sexpr_text.specs.Nesting.{Adds, Closes}
use Rattle.sexpr_text.proofs.NestEndLemmas.{StandsFor, taken, word_on, left_on, goes_on, ends}
use Rattle.sexpr_text.proofs.reader.read_list.Goals as goal
use Rattle.sexpr_text.proofs.reader.read_list.Goals.{in-Word+in_ok-node-in-Word, in-Left-2}

pub returns-then-not-close : goal.returns-then-not-close
returns-then-not-close c =
    let e : c.tokens.scanner ≡ Token.right c.in-Some.field-0.place ∷ c.next.new.self =
    taken c.tokens.scanner c.next.new.self c.in_ok-lexeme.field-0 c.in-Some.field-0 lexemes.Right
    c.in_ok-lexeme.ensures c.in-Some.is c.in-Right.is in
    ends c.args.end c.args.place c.in-Some.field-0.place c.args.scanner.now c.tokens.scanner c.next.new.self
    c.tokens.invariant.opens c.close.new.self c.into_tree.result
    (record {
      closed = c.tokens.invariant.holds.closed;
      fault = c.tokens.invariant.fault;
      tree = c.tokens.invariant.tree;
    })
    e
    (subst (λ v. Closes c.tokens.invariant.opens v c.close.new.self) c.if-not-close.true
    (c.close.ensures c.tokens.invariant.opens c.tokens.invariant.holds))
    c.into_tree.ensures.items c.into_tree.ensures.place

pub tokens-preserved-in-Right : goal.tokens-preserved-in-Right
tokens-preserved-in-Right c =
    let e : c.tokens.scanner ≡ Token.right c.in-Some.field-0.place ∷ c.next.new.self =
    taken c.tokens.scanner c.next.new.self c.in_ok-lexeme.field-0 c.in-Some.field-0 lexemes.Right
    c.in_ok-lexeme.ensures c.in-Some.is c.in-Right.is in
    let on = goes_on c.args.end c.in-Some.field-0.place c.args.scanner.now c.tokens.scanner c.next.new.self
    (opened c.args.place (levels c.args.scanner.now).inner (levels c.args.scanner.now).outer)
    c.tokens.invariant.opens c.close.new.self
    (record {
      closed = c.tokens.invariant.holds.closed;
      fault = c.tokens.invariant.fault;
      tree = c.tokens.invariant.tree;
    })
    e c.tokens.invariant.shallow
    (subst (λ v. Closes c.tokens.invariant.opens v c.close.new.self) c.if-not-close.false
    (c.close.ensures c.tokens.invariant.opens c.tokens.invariant.holds)) in
    record { opens = on.opens; holds = on.holds; shallow = on.shallow; fault = on.fault; tree = on.tree }

pub tokens-preserved : goal.tokens-preserved
tokens-preserved c =
    let s : StandsFor c.args.end c.args.scanner.now
    (opened c.args.place (levels c.args.scanner.now).inner (levels c.args.scanner.now).outer)
    c.tokens.invariant.opens c.tokens.scanner = record {
      closed = c.tokens.invariant.holds.closed;
      fault = c.tokens.invariant.fault;
      tree = c.tokens.invariant.tree;
    } in
    let h = c.in_ok-add.ensures c.tokens.invariant.opens c.tokens.invariant.holds in
    elim c.match-lexeme.branch [
      | in-Word+in_ok-node-in-Word w ↦
          let on = word_on c.args.end c.in-Some.field-0.place w.in-Word.text c.args.scanner.now c.tokens.scanner
          c.next.new.self _ c.tokens.invariant.opens c.add.new.self s
          (taken c.tokens.scanner c.next.new.self c.in_ok-lexeme.field-0 c.in-Some.field-0
          (lexemes.Word w.in-Word.text) c.in_ok-lexeme.ensures c.in-Some.is w.in-Word.is)
          c.tokens.invariant.shallow
          (subst (λ t. Adds c.tokens.invariant.opens t c.add.new.self)
          (w.node-is ∙ w.in_ok-node-in-Word.ensures) h) in
          record { opens = on.opens; holds = on.holds; shallow = on.shallow; fault = on.fault; tree = on.tree }
      | in-Left-2 w ↦
          let count = w.open_count.ensures c.tokens.invariant.opens c.tokens.invariant.holds in
          let low = c.tokens.invariant.shallow in
          let on = left_on c.args.end c.in-Some.field-0.place c.args.scanner.now c.tokens.scanner
          c.next.new.self _ c.tokens.invariant.opens c.add.new.self s
          (taken c.tokens.scanner c.next.new.self c.in_ok-lexeme.field-0 c.in-Some.field-0 lexemes.Left
          c.in_ok-lexeme.ensures c.in-Some.is w.in-Left.is)
          (let other = w.if-open_count-eq-MAX_DEPTH.false in omega arith)
          (subst (λ t. Adds c.tokens.invariant.opens t c.add.new.self) (w.node-is ∙ w.list-node.ensures) h refl) in
          record { opens = on.opens; holds = on.holds; shallow = on.shallow; fault = on.fault; tree = on.tree }
    ]
