-- Settings as they are made.
use Rattle.std.specs.Prelude.{◌≡◌, ℕ}
use Rattle.machine.specs.declared.settings.Settings.{Settings}

pub record SetTo (page first last stack returns fill : ℕ) (s : Settings) : Type 0 where
  pub its_page : s.page ≡ page
  pub its_first : s.first ≡ first
  pub its_last : s.last ≡ last
  pub its_stack : s.stack ≡ stack
  pub its_returns : s.returns ≡ returns
  pub its_fill : s.fill ≡ fill
