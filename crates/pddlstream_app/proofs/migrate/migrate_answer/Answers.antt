use Rattle.std.proofs.Common.{[], ◌∷◌, inl, inr, refl, subst, sym}
use Rattle.round_run.proofs.StoppedLemmas.{handed_err}
use Rattle.command_line.specs.Words.{migrate}
use Rattle.command_files.proofs.InputsLemmas.{ends_first}
use Rattle.pddlstream_app.proofs.NoInputLemmas.{ends_reading}
use Rattle.pddlstream_app.specs.Answering.{IsMade}
use Rattle.command_files.specs.Files.{file_of}
use Rattle.command_files.specs.Inputs.{files_named}
use Rattle.command_files.specs.Outside.{seen_of}
use Rattle.pddlstream_app.specs.Replays.{IsMigrated}
use Rattle.command_files.specs.declared.stop.FileRole.TheVariants as role
use Rattle.pddlstream_app.proofs.migrate.migrate_answer.Goals as goal

pub returns-in_err-bytes : goal.returns-in_err-bytes
returns-in_err-bytes g c =
    let command = migrate c.args.path.now in
    record {
      made = subst (IsMade command (seen_of g.F.Files.told g.F.Files.faults g.F.Files.asked c.args.files.now c.read_file.new.files))
          (sym (handed_err c.from_residual.result c.in_err-bytes.field-0.0 c.from_residual.ensures.1))
          (inl (ends_reading command _ c.in_err-bytes.field-0.0
          (ends_first _ (file_of role.Report c.args.path.now) [] c.in_err-bytes.field-0.0 (c.in_err-bytes.ensures.stop []))));
    }

pub returns-in-Ok : goal.returns-in-Ok
returns-in-Ok g c = record {
  made = (
    record {
      texts = c.in_ok-bytes.bytes.items ∷ [];
      are = (c.in_ok-bytes.ensures.bytes, tt);
      so = subst (λ bytes. IsMigrated bytes c.in-Ok.said.status c.in-Ok.said.text.items) c.as_slice.ensures.value c.in-Ok.ensures;
    },
    record { all = files_named (migrate c.args.path.now); are = refl; asked = c.in_ok-bytes.ensures.asked },
  );
}

pub returns : goal.returns
returns g c = record {
  made = inr (
    refl,
    record { all = files_named (migrate c.args.path.now); are = refl; asked = c.in_ok-bytes.ensures.asked },
  );
}
