use Rattle.std.proofs.Common.{◌≡◌, ◌++◌, codes, IfOk, subst, sym}
use Rattle.command_files.specs.Stop.{last_text}
use Rattle.command_files.proofs.stop.Stop.last_text.Goals as goal

pub returns-in-Failed : goal.returns-in-Failed
returns-in-Failed c =
    subst (λ why. IfOk c.parts-in-Failed.result (λ text. text.items ≡ last_text why)) (sym c.in-Failed.is)
    (subst (λ word. IfOk c.parts-in-Failed.result (λ text. text.items ≡ codes "fault read " ++ word ++ codes " failed\n")) c.word.ensures
    c.parts-in-Failed.ensures)

pub returns-in-TooLong : goal.returns-in-TooLong
returns-in-TooLong c =
    subst (λ why. IfOk c.parts-in-TooLong.result (λ text. text.items ≡ last_text why)) (sym c.in-TooLong.is)
    (subst (λ word. IfOk c.parts-in-TooLong.result (λ text. text.items ≡ codes "fault read " ++ word ++ codes " too-long\n"))
    c.word-in-TooLong.ensures c.parts-in-TooLong.ensures)
