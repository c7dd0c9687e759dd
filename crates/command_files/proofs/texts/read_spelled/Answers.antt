use Rattle.std.proofs.Common.{◌∙◌, [], ◌∷◌, rules, subst}
use Rattle.io_world.proofs.TalksLemmas.{extends_more}
use Rattle.round_run.proofs.StoppedLemmas.{handed}
use Rattle.task_reader.specs.Texts.{SpellsDomain, SpellsProblem}
use Rattle.command_files.proofs.InputsLemmas.{ends_behind, ends_first, later_on, refused_first, refused_second, refused_third}
use Rattle.command_files.specs.Files.{HasBytes, file_of}
use Rattle.command_files.specs.declared.stop.FileRole.TheVariants as role
use Rattle.command_files.specs.declared.stop.Text.TheVariants.{Problem}
use Rattle.command_files.proofs.texts.read_spelled.Goals as goal

pub returns-in_err-domain-clause-stop : goal.returns-in_err-domain-clause-stop
returns-in_err-domain-clause-stop g c =
    handed c.from_residual.result c.in_err-domain.field-0.0 _ c.from_residual.ensures.1
    (λ more. ends_first _ _ _ c.in_err-domain.field-0.0
    (c.in_err-domain.ensures.stop [] (λ bytes r met. refused_first bytes r (search rules))))

pub returns-in_err-problem-clause-stop : goal.returns-in_err-problem-clause-stop
returns-in_err-problem-clause-stop g c =
    let d = c.in_ok-domain.ensures.parsed in
    let spelled : SpellsDomain d.bytes c.in_ok-domain.domain = search rules in
    handed c.from_residual-in_err-problem.result c.in_err-problem.field-0.0 _ c.from_residual-in_err-problem.ensures.1
    (λ more. ends_behind (g.F.Files.told c.args.files.now) _ _ _ c.read_as.ensures.later _ _ _ _ c.read_as.ensures.same
    (_ ∷ []) c.in_ok-domain.ensures.asked (d.bytes ∷ []) (d.has, tt) (c.in_ok-domain.domain, spelled) _ _ c.in_err-problem.field-0.0
    (c.in_err-problem.ensures.stop (d.bytes ∷ [])
    (λ bytes r met. refused_second d.bytes c.in_ok-domain.domain spelled bytes r (search rules))))

pub returns-in_err-streams-clause-stop : goal.returns-in_err-streams-clause-stop
returns-in_err-streams-clause-stop g c =
    let d = c.in_ok-domain.ensures.parsed in
    let p = c.in_ok-problem.ensures.parsed in
    let same = c.read_as.ensures.same in
    let spelled : SpellsDomain d.bytes c.in_ok-domain.domain = search rules in
    let second : SpellsProblem c.in_ok-domain.domain p.bytes c.in_ok-problem.problem = search rules in
    let has = subst (λ told. HasBytes told (file_of (role.Text Problem) c.args.paths.now.problem.now) p.bytes) same p.has in
    handed c.from_residual-in_err-streams.result c.in_err-streams.field-0.0 _ c.from_residual-in_err-streams.ensures.1
    (λ more. ends_behind (g.F.Files.told c.args.files.now) _ _ _
    (later_on _ _ _ c.read_as.ensures.later c.read_as-2.ensures.later) _ _ _ _ (c.read_as-2.ensures.same ∙ same) (_ ∷ _ ∷ [])
    (extends_more _ _ _ _ _ c.in_ok-domain.ensures.asked c.in_ok-problem.ensures.asked) (d.bytes ∷ p.bytes ∷ [])
    (d.has, (has, tt)) (c.in_ok-domain.domain, c.in_ok-problem.problem, spelled, second) _ _ c.in_err-streams.field-0.0
    (c.in_err-streams.ensures.stop (d.bytes ∷ p.bytes ∷ [])
    (λ bytes r met. refused_third d.bytes c.in_ok-domain.domain spelled p.bytes c.in_ok-problem.problem second bytes r (search rules))))
