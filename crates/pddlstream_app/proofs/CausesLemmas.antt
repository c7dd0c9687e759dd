-- The causes of how runs end.
use Rattle.std.proofs.Common.{◌≡◌, true, false, refl, sym, ap, ◌∙◌}
use Rattle.command_files.specs.Stop.{is_write}
use Rattle.round_run.specs.declared.fault.RunFault.TheVariants as fault
use Rattle.command_files.specs.declared.stop.Stop.{Stop}
use Rattle.command_files.specs.declared.stop.Stop.TheVariants as stop

-- ---- causes

pub write_stop : (why : Stop) → is_write why ≡ true → why ≡ stop.Run fault.Write
write_stop stop.Usage e = absurd (cc)
write_stop (stop.Input which kind place) e = absurd (cc)
write_stop (stop.Map why) e = absurd (cc)
write_stop (stop.Grid kind line) e = absurd (cc)
write_stop (stop.Failed which) e = absurd (cc)
write_stop (stop.TooLong which) e = absurd (cc)
write_stop (stop.Run (fault.Answer number why)) e = absurd (cc)
write_stop (stop.Run fault.Generator) e = absurd (cc)
write_stop (stop.Run fault.Write) e = refl
write_stop (stop.Run fault.Memory) e = absurd (cc)

pub other_stop : (why : Stop) → is_write why ≡ false → why ≡ stop.Run fault.Write → ⊥
other_stop why e is = let both : true ≡ false = sym (ap is_write is) ∙ e in absurd (cc)
