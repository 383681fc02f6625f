-- The family at an opcode's place in the table is the one that a search finds.
use Rattle.std.proofs.Common.{◌≡◌, ℕ, ◌<◌, List, map, length, get_or, Some, None, Option, sym, ap, ◌∙◌, arith, Bor}
use Rattle.std.specs.List.{range_with_len, slice_get}
use Rattle.std.specs.Option.{option_map}
use Rattle.std.specs.Slice.{IsGetResult}
use Rattle.std.proofs.lemmas.List.{get_or-map}
use Rattle.std.proofs.lemmas.Option.{slice_get-get_or, slice_get_past}
use Rattle.std.proofs.lemmas.List.FromFn.{get_or-map-range_with_len}
use Rattle.instruction.specs.Table.{families, found, at_place, placed}

-- the list of places, one for each opcode, answers as the search does
abbrev pub Answers : List ℕ → Type 0
Answers places = map (slice_get families) places ≡ map (found families) (range_with_len 0 256)

pub looked_up : (places : List ℕ) (opcode : ℕ) → Answers places → length places ≡ 256 → opcode < 256 → placed families places opcode ≡ found families opcode
unfolding placed
looked_up places opcode all many h =
    let k : opcode < length places = rw many h in
    ap (at_place families) (slice_get-get_or places opcode 0 k)
    ∙ sym (get_or-map (slice_get families) places opcode 0 None k)
    ∙ ap (λ xs. get_or xs opcode None) all
    ∙ get_or-map-range_with_len (found families) 0 256 opcode opcode None h (omega arith)

-- what `get` answers is what stands at the index
pub item_nth : {X : Type 0} (xs : List X) (i : ℕ) (r : Option (Bor X)) → IsGetResult xs i i r → option_map (λ x. x.now) r ≡ slice_get xs i
item_nth xs i None h = sym (slice_get_past xs i h.3)
item_nth xs i (Some x) h = sym (slice_get-get_or xs i x.now h.3.0 ∙ ap Some (sym (h.3.1 x.now)))
