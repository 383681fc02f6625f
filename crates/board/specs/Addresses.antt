-- Lists of addresses.
use Rattle.std.specs.Prelude.{ℕ, Bool, not, List, length, take, ◌==◌, slice_index}
use Rattle.std.specs.List.{list_any, list_all, range_with_len}

abbrev pub contains : List ℕ → ℕ → Bool
contains xs a = list_any (λ x. x == a) xs

-- no address stands twice: none is among those before it
abbrev pub distinct : List ℕ → Bool
distinct xs = list_all (λ i. not (contains (take i xs) (slice_index xs i))) (range_with_len 0 (length xs))
