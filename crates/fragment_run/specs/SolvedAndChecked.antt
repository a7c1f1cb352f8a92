-- A run that solved a text, and a later one that checks what it wrote.
use Rattle.std.specs.Prelude.{◌≡◌, ℕ, List, Some, Ok}
use Rattle.frag_io.specs.declared.desk.Slot.TheVariants.{CertOut}
use Rattle.frag_io.specs.DeskState.{DeskState}
use Rattle.profile.specs.Profile.{ProfileValue}
use Rattle.check_command.specs.CheckPromise.{CheckPromise}
use Rattle.order_words.specs.Orders.{DocumentNames}
use Rattle.run_plan.specs.Class.{IsAnswer, class_of}
use Rattle.run_plan.specs.ProfilePromise.{profile_outcome}
use Rattle.run_plan.specs.declared.status.Status.{Status}
use Rattle.solve_command.specs.SolvePromise.{SolvePromise}

-- The first run, between the states before it and after it, kept the promise of `solve` and answered; the other,
-- between
-- later states, kept that of `check` and answered. Both were told the same text and the same profile, and the other was
-- told the bytes that the first wrote to its document.
pub record SolvedAndChecked (names : DocumentNames) (before now later last : DeskState) (solved checked : Status) :
    Type 0 where
  pub profile : ProfileValue
  pub text : List ℕ
  pub bytes : List ℕ
  pub solve : SolvePromise names before now solved
  pub check : CheckPromise names later last checked
  pub solved_profile : profile_outcome before.gives names.profile ≡ Some (Ok profile)
  pub checked_profile : profile_outcome later.gives names.profile ≡ Some (Ok profile)
  pub solved_text : before.gives names.spectra ≡ Some text
  pub checked_text : later.gives names.spectra ≡ Some text
  pub wrote : now.written CertOut ≡ Some bytes
  pub document : later.gives names.document ≡ Some bytes
  pub solved_answer : IsAnswer (class_of solved)
  pub checked_answer : IsAnswer (class_of checked)
