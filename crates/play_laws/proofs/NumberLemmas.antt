-- The tasks of numbers tell their grids.
use Rattle.std.proofs.Common.{◌≡◌, ℕ, zero, suc, ◌≤◌, true, refl, arith}
use Rattle.std.specs.Fmt.{digits}
use Rattle.grid_text.specs.Rects.{is_within, meets}
use Rattle.play_laws.specs.GridTasks.{grid_file_of, grid_task_of}
use Rattle.play_laws.specs.Laws.{NumbersAreGridProblems}
use Rattle.play_laws.specs.Problems.{tells_grid}

tells_number : (n : ℕ) → 1 ≤ n → n ≤ 12 → tells_grid (grid_task_of n) (grid_file_of n) ≡ true
unfolding digits is_within meets
tells_number zero some few = absurd (omega (arith, some))
tells_number (suc zero) some few = refl
tells_number (suc (suc zero)) some few = refl
tells_number (suc (suc (suc zero))) some few = refl
tells_number (suc (suc (suc (suc zero)))) some few = refl
tells_number (suc (suc (suc (suc (suc zero))))) some few = refl
tells_number (suc (suc (suc (suc (suc (suc zero)))))) some few = refl
tells_number (suc (suc (suc (suc (suc (suc (suc zero))))))) some few = refl
tells_number (suc (suc (suc (suc (suc (suc (suc (suc zero)))))))) some few = refl
tells_number (suc (suc (suc (suc (suc (suc (suc (suc (suc zero))))))))) some few = refl
tells_number (suc (suc (suc (suc (suc (suc (suc (suc (suc (suc zero)))))))))) some few = refl
tells_number (suc (suc (suc (suc (suc (suc (suc (suc (suc (suc (suc zero))))))))))) some few = refl
tells_number (suc (suc (suc (suc (suc (suc (suc (suc (suc (suc (suc (suc zero)))))))))))) some few = refl
tells_number (suc (suc (suc (suc (suc (suc (suc (suc (suc (suc (suc (suc (suc n))))))))))))) some few =
    absurd (omega (arith, few))

pub numbers_are_grid_problems : NumbersAreGridProblems
numbers_are_grid_problems n some few = record { domain = refl; streams = refl; problem = tells_number n some few }
