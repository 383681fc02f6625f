-- Entries of fitted routines, and places that hold nothing.
use Rattle.std.proofs.Common.{◌≡◌, ℕ, Bool, true, false, cond, ◌&&◌, eqb, List, [], ◌∷◌, Some, None, Option, refl, ap}
use Rattle.std.specs.List.{list_all, find, filter_map}
use Rattle.board.specs.declared.Right.{Right}
use Rattle.instruction.specs.Claim.{unsure}
use Rattle.records.specs.declared.entry.Entry.{Entry}
use Rattle.records.specs.declared.window.Window.{Window}
use Rattle.records.specs.Lists.{any_pass}
use Rattle.records.specs.Routine.{digest_of, digests_of, present}
use Rattle.sheet.specs.Known.{within, narrower, held_by}
use Rattle.sheet.specs.Steps.{finds}
use Rattle.sheet.specs.Calls.{told}

pub told_find : (es : List Entry) (t : ℕ) → told (find (λ e. eqb e.origin t) es) ≡ finds (digests_of es) t
told_find [] t = refl
told_find (e ∷ es) t = go (told_find es t) (eqb e.origin t)
  where
    go : told (find (λ d. eqb d.origin t) es) ≡ finds (digests_of es) t → (b : Bool) →
        told (cond b (Some e) (find (λ d. eqb d.origin t) es)) ≡ cond b (Some (digest_of e)) (finds (digests_of es) t)
    go k true = refl
    go k false = k

pub all_present : (ws : List Window) (os : List (Option Window)) → list_all (λ v. any_pass (within v) ws) (filter_map (λ o. o) os) ≡ narrower (present os) ws
all_present ws [] = refl
all_present ws (None ∷ os) = all_present ws os
all_present ws (Some v ∷ os) = ap (λ z. any_pass (within v) ws && z) (all_present ws os)

pub any_unsure : (right : Right) (ws : List Window) → false ≡ any_pass (held_by unsure right) ws
any_unsure right [] = refl
any_unsure right (w ∷ ws) = any_unsure right ws
