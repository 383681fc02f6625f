-- The addresses that cells own lie between a first and a last.
use Rattle.std.proofs.Common.{◌≡◌, ℕ, ◌≤◌, refl, arith}
use Rattle.std.proofs.lemmas.Grind.{common_steps}
use Rattle.board.specs.Meaning.{allowed, spans}
use Rattle.board.specs.declared.Right.{Right}
use Rattle.board.specs.declared.Right.TheVariants.{Read, Write, Both}
use Rattle.board.proofs.Every.{is-between}
use Rattle.board.specs.Cells.{Cells, owns, owns_ends, cells_meaning}

-- the rights are all alike
alike : (c : Cells) (right : Right) (a : ℕ) → allowed cells_meaning c right a ≡ owns c a
alike c Read a = refl
alike c Write a = refl
alike c Both a = grind arith

-- the rights of cells span what both ends bound
pub ends_span : (c : Cells) (right : Right) (first last : ℕ) → owns_ends c first last ≡ spans cells_meaning c right first last
ends_span c right first last =
    is-between (owns_ends c first last) (allowed cells_meaning c right) first last
    (λ e a l k. rw (alike c right a) (grind (arith, common_steps)))
    (λ each. let f = λ (h : first ≤ last). rw (alike c right first) at (each first (omega arith) h) in
    let g = λ (h : first ≤ last). rw (alike c right last) at (each last h (omega arith)) in
    grind (arith, common_steps, f, g))
