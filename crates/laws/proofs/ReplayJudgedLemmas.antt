-- The verdict that a replay answers.
use Rattle.std.proofs.Common.{◌≡◌, ℕ, List, [], ◌∷◌, sym, subst, ◌∙◌, Option, Some}
use Rattle.command_line.specs.Words.{Command, ReplayWords, command_of, replay}
use Rattle.io_world.specs.FileMap.{FileMap}
use Rattle.pddlstream_app.specs.AnswerOf.{AnswerOf, HasAnswer, IsCommandAnswer, IsVerdictFor}
use Rattle.command_files.specs.Files.{AreBytes, FileHolds}
use Rattle.command_files.specs.Inputs.{IsTaskOf, files_named}
use Rattle.command_files.specs.Outside.{Outside}
use Rattle.pddlstream_app.specs.Replays.{kind_of_verdict, verdict_text}
use Rattle.command_files.specs.declared.status.Status.{Status}
use Rattle.replay_check.specs.declared.verdict.Verdict.{Verdict}
use Rattle.task_model.specs.declared.task.Task.{Task}

-- The files spell a task and hold the bytes of a report, and this is what is said of them.
pub record IsJudged (told : Option FileMap) (asked : ReplayWords) (status : Status) (text : List ℕ) : Type 0 where
  pub task : Task
  pub spelled : IsTaskOf told asked.files task
  pub bytes : List ℕ
  pub held : FileHolds told asked.report bytes
  pub verdict : Verdict
  pub so : IsVerdictFor asked.optimal asked.states task bytes verdict
  pub kind : kind_of_verdict verdict ≡ status
  pub is : text ≡ verdict_text verdict

module _ (told : Option FileMap) (asked : ReplayWords) (status : Status) (text : List ℕ) where
  of_texts : (texts : List (List ℕ)) → AreBytes told (files_named (replay asked)) texts
      → AnswerOf (replay asked) texts status text
      → IsJudged told asked status text
  of_texts (domain ∷ problem ∷ streams ∷ report ∷ []) are a = record {
    task = a.0;
    spelled = record {
      domain = domain;
      problem = problem;
      streams = streams;
      are = (are.0, (are.1.0, (are.1.1.0, tt)));
      spelled = a.1;
    };
    bytes = report;
    held = are.1.1.1.0.held;
    verdict = a.3.0;
    so = a.3.1;
    kind = a.3.2;
    is = a.3.3;
  }
  of_texts texts are a = absurd a

  judged_answer : IsCommandAnswer (replay asked) told status text → IsJudged told asked status text
  judged_answer a = of_texts a.texts a.are a.so

-- words that mean a report is to be judged have no other answer
pub answer_judged : (words : List (List ℕ)) (outside : Outside) (status : Status) (text : List ℕ) (asked : ReplayWords)
    → command_of words ≡ Some (replay asked) → HasAnswer words outside status text
    → IsJudged outside.files.told asked status text
answer_judged words outside status text asked meant h =
    let both : Some h.command ≡ Some (replay asked) = sym h.meant ∙ meant in
    let same : h.command ≡ replay asked = cc in
    judged_answer outside.files.told asked status text
    (subst (λ (c : Command). IsCommandAnswer c outside.files.told status text) same h.answer)
