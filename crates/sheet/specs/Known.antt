-- Windows and pointers: what is known where an instruction stands, and whether it suffices.
use Rattle.std.specs.Prelude.{ℕ, Bool, true, false, ◌&&◌, List, [], ◌∷◌, slice_index_or, Some, None, Option, ◌==◌, nat_le}
use Rattle.std.specs.List.{list_all, zip}
use Rattle.board.specs.declared.Right.{Right}
use Rattle.board.specs.declared.Right.TheVariants.{Read, Write, Both}
use Rattle.instruction.specs.Claim.{Knows, Span, unsure, from_to, Claim, nothing, reading, writing}
use Rattle.records.specs.declared.window.Window.{Window}
use Rattle.records.specs.Read.{right_of}
use Rattle.records.specs.Lists.{any_pass}

-- a right grants itself, and both grants each
abbrev pub grants : Option Right → Option Right → Bool
grants (Some Both) wanted = true
grants (Some Read) (Some Read) = true
grants (Some Write) (Some Write) = true
grants _ _ = false

-- the window holds all addresses from a first to a last, with at least this right
abbrev pub holds : ℕ → ℕ → Option Right → Window → Bool
holds first last right w = nat_le w.first first && (nat_le last w.last && grants (right_of w.right) right)

-- the window v lies in w, which has at least its right
abbrev pub within : Window → Window → Bool
within v w = holds v.first v.last (right_of v.right) w

-- each window of the first list lies in one of the second
abbrev pub narrower : List Window → List Window → Bool
narrower vs ws = list_all (λ v. any_pass (within v) ws) vs

-- addresses that are not known lie in no window
abbrev pub held_by : Span → Right → Window → Bool
held_by unsure right w = false
held_by (from_to first last) right w = holds first last (Some right) w

-- the addresses read or written lie in one window with that right
abbrev pub allowed : List Window → Claim → Bool
allowed ws nothing = true
allowed ws (reading x) = any_pass (held_by x Read) ws
allowed ws (writing x) = any_pass (held_by x Write) ws

-- what is claimed of a pointer; there are four
abbrev pub claimed : List (Option ℕ) → ℕ → Option ℕ
claimed pointers p = slice_index_or pointers p None

abbrev pub four : (ℕ → Option ℕ) → List (Option ℕ)
four f = f 0 ∷ (f 1 ∷ (f 2 ∷ (f 3 ∷ [])))

-- what is known of the four pointers
abbrev pub seen : Knows → List (Option ℕ)
seen k = four k.pointer

-- nothing is known
abbrev pub unknown : Knows
unknown = record { pointer = λ p. None; top = None }

-- what is claimed known is known, with that value
abbrev pub borne_out : Option ℕ → Option ℕ → Bool
borne_out None fact = true
borne_out (Some a) None = false
borne_out (Some a) (Some b) = a == b

abbrev pub all_borne_out : List (Option ℕ) → List (Option ℕ) → Bool
all_borne_out claims facts = list_all (λ p. borne_out p.0 p.1) (zip claims facts)
