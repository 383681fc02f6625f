-- What holds of every row of the table, by one test that is computed over the whole table.
use Rattle.std.proofs.Common.{◌≡◌, ℕ, ◌+◌, ◌-◌, ◌*◌, ◌≤◌, Bool, true, false, cond, ◌&&◌, eqb, leb, List, [], ◌∷◌, Some, None, Option, sym, refl, ap, ◌∙◌, subst, arith, rules}
use Rattle.std.proofs.lemmas.Bool.{leb-true, eqb-true, and_parts}
use Rattle.std.specs.List.{AllByRecursion}
use Rattle.instruction.specs.declared.table.Place.TheVariants.{Absolute, Relative, Indexed}
use Rattle.instruction.specs.declared.table.Memory.{Memory}
use Rattle.instruction.specs.declared.table.Memory.TheVariants.{Nowhere, Read, Write}
use Rattle.instruction.specs.declared.table.Turn.{Turn}
use Rattle.instruction.specs.declared.table.Turn.TheVariants.{On, Jump, IfZero, IfNonzero, Call, Return}
use Rattle.instruction.specs.declared.table.Family.{Family}
use Rattle.instruction.specs.declared.decoding.Operand.{Operand}
use Rattle.instruction.specs.declared.decoding.Operand.TheVariants.{Empty, Byte, Word}
use Rattle.instruction.specs.declared.decoding.Instruction.{Instruction}
use Rattle.instruction.specs.Decode.{operand_size, one_byte, two_bytes, operand_of, with_operand, with_family, decoded, Listed}
use Rattle.instruction.specs.Table.{families, row_of, holds, found}

-- a family that is found has what all have, and the opcode
pub found_has : (P : Family → Type 0) (fs : List Family) (opcode : ℕ) (f : Family) → AllByRecursion P fs → found fs opcode ≡ Some f → P f × (holds f opcode ≡ true)
found_has P [] opcode f all e = cc
found_has P (g ∷ gs) opcode f all e = go (holds g opcode) refl e (found_has P gs opcode f all.1)
  where
    go : (b : Bool) → holds g opcode ≡ b → cond b (Some g) (found gs opcode) ≡ Some f → (found gs opcode ≡ Some f → P f × (holds f opcode ≡ true)) → P f × (holds f opcode ≡ true)
    go true on s later = let same : g ≡ f = cc in subst (λ (x : Family). P x × (holds x opcode ≡ true)) same (all.0, on)
    go false off s later = later s

-- the pointer is one of four, and the bytes that the access reads are among those needed
abbrev pub reaches_enough : Memory → ℕ → ℕ → Bool
reaches_enough Nowhere number needs = true
reaches_enough (Read Absolute) number needs = true
reaches_enough (Read Relative) number needs = leb number 3
reaches_enough (Read Indexed) number needs = leb number 3 && leb 1 needs
reaches_enough (Write Absolute) number needs = leb 1 needs
reaches_enough (Write Relative) number needs = leb number 3 && leb 1 needs
reaches_enough (Write Indexed) number needs = leb number 3 && leb 2 needs

-- a test has its byte, a call leaves a return address and a return takes one, and no other touches the return stack by more than a byte
abbrev pub turns_enough : Turn → ℕ → ℕ → ℕ → Bool
turns_enough On needs takes gives = leb takes 1 && leb gives 1
turns_enough (Jump d) needs takes gives = leb takes 1 && leb gives 1
turns_enough (IfZero d) needs takes gives = leb 1 needs && (leb takes 1 && leb gives 1)
turns_enough (IfNonzero d) needs takes gives = leb 1 needs && (leb takes 1 && leb gives 1)
turns_enough Call needs takes gives = eqb takes 0 && eqb gives 2
turns_enough Return needs takes gives = eqb takes 2 && eqb gives 0

abbrev pub sound : Family → Bool
sound f =
    leb 1 f.cycles
    && (reaches_enough f.memory (f.last - f.first) f.needs && turns_enough f.turn f.needs f.takes f.gives)

-- a row is its kind's, and passes the test
abbrev pub Sound : Family → Type 0
Sound f = (f ≡ row_of f.kind) × (sound f ≡ true)

all_sound : AllByRecursion Sound families
unfolding families
all_sound = search rules

pub found-sound : (opcode : ℕ) (f : Family) → found families opcode ≡ Some f → Sound f × (holds f opcode ≡ true)
found-sound opcode f e = found_has Sound families opcode f all_sound e

pub found_from : (opcode : ℕ) (f : Family) → found families opcode ≡ Some f → f.first ≤ opcode
found_from opcode f e = leb-true f.first opcode (and_parts (leb f.first opcode) (leb opcode f.last) (found-sound opcode f e).1).0

-- what the test says of each row
pub record Rule (f : Family) : Type 0 where
  pub cycles : 1 ≤ f.cycles
  pub reaches : reaches_enough f.memory (f.last - f.first) f.needs ≡ true
  pub turns : turns_enough f.turn f.needs f.takes f.gives ≡ true

pub rule : (f : Family) → sound f ≡ true → Rule f
rule f e =
    let a = and_parts (leb 1 f.cycles) _ e in
    let b = and_parts (reaches_enough f.memory (f.last - f.first) f.needs) _ a.1 in
    record { cycles = leb-true 1 f.cycles a.0; reaches = b.0; turns = b.1 }

-- what is decoded is in the table

one-sized : (after : List ℕ) (x : Operand) → one_byte after ≡ Some x → operand_size x ≡ 2
one-sized [] x e = cc
one-sized (n ∷ rest) x e = let same : x ≡ Byte n = cc in ap operand_size same

two_sized : (after : List ℕ) (x : Operand) → two_bytes after ≡ Some x → operand_size x ≡ 3
two_sized [] x e = cc
two_sized (high ∷ []) x e = cc
two_sized (high ∷ (low ∷ rest)) x e = let same : x ≡ Word (high * 256 + low) = cc in ap operand_size same

sized_as : (size : ℕ) (after : List ℕ) (x : Operand) → operand_of size after ≡ Some x → operand_size x ≡ size
sized_as size after x = go (eqb size 1) (eqb size 2) (eqb size 3) refl refl refl
  where
    go : (a b c : Bool) → eqb size 1 ≡ a → eqb size 2 ≡ b → eqb size 3 ≡ c
        → cond a (Some Empty) (cond b (one_byte after) (cond c (two_bytes after) None)) ≡ Some x → operand_size x ≡ size
    go true b c h k l e = let same : x ≡ Empty = cc in ap operand_size same ∙ sym (eqb-true size 1 h)
    go false true c h k l e = one-sized after x e ∙ sym (eqb-true size 2 k)
    go false false true h k l e = two_sized after x e ∙ sym (eqb-true size 3 l)
    go false false false h k l e = cc

listed_with : (f : Family) (opcode : ℕ) (o : Option Operand) (i : Instruction) → found families opcode ≡ Some f
    → ((x : Operand) → o ≡ Some x → operand_size x ≡ f.size) → with_operand f opcode o ≡ Some i → Listed i
listed_with f opcode None i k z e = cc
listed_with f opcode (Some x) i k z e =
    let same : ◌≡◌ {A = Instruction} (record { family = f; number = opcode - f.first; operand = x }) i = cc in
    subst (λ (j : Instruction). Listed j) same (record { opcode = opcode; family = k; number = refl; sized = z x refl })

listed-family : (o : Option Family) (opcode : ℕ) (after : List ℕ) (i : Instruction) → found families opcode ≡ o → with_family o opcode after ≡ Some i → Listed i
listed-family None opcode after i k e = cc
listed-family (Some f) opcode after i k e = listed_with f opcode (operand_of f.size after) i k (sized_as f.size after) e

pub listed_decoded : (code : List ℕ) (i : Instruction) → decoded code ≡ Some i → Listed i
listed_decoded [] i e = cc
listed_decoded (opcode ∷ after) i e = listed-family (found families opcode) opcode after i refl e

-- what the table says of an instruction that it has
pub record Rowed (i : Instruction) : Type 0 where
  pub row : i.family ≡ row_of i.family.kind
  pub rule : Rule i.family
  pub low : i.number ≤ i.family.last - i.family.first

pub rowed : (i : Instruction) → Listed i → Rowed i
rowed i l =
    let s = found-sound l.opcode i.family l.family in
    let both = and_parts (leb i.family.first l.opcode) (leb l.opcode i.family.last) s.1 in
    let first = leb-true i.family.first l.opcode both.0 in
    let last = leb-true l.opcode i.family.last both.1 in
    let number = l.number in
    record { row = s.0.0; rule = rule i.family s.0.1; low = omega arith }
