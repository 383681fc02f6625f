-- What the code leans on follows from the questions that an instruction of the table has passed.
use Rattle.std.proofs.Common.{◌≡◌, ℕ, suc, ◌+◌, ◌-◌, ◌<◌, ◌≤◌, Bool, true, false, cond, leb, length, refl, subst, sym, arith}
use Rattle.std.proofs.lemmas.Bool.{leb-true, and_parts}
use Rattle.refusal.specs.Questions.{Verdict, accepted, refused, first_no}
use Rattle.instruction.specs.declared.table.Place.TheVariants.{Absolute, Relative, Indexed}
use Rattle.instruction.specs.declared.table.Memory.{Memory}
use Rattle.instruction.specs.declared.table.Memory.TheVariants.{Nowhere, Read, Write}
use Rattle.instruction.specs.declared.table.Family.{Family}
use Rattle.instruction.specs.declared.decoding.Operand.{Operand}
use Rattle.instruction.specs.declared.decoding.Instruction.{Instruction}
use Rattle.instruction.specs.declared.reach.MemoryOperand.{MemoryOperand}
use Rattle.instruction.specs.Table.{row_of}
use Rattle.instruction.specs.Decode.{Listed}
use Rattle.instruction.specs.Reach.{reached, reach}
use Rattle.instruction.proofs.Rows.{reaches_enough, rowed}
use Rattle.machine.specs.declared.settings.Settings.{Settings}
use Rattle.machine.specs.declared.stack.Stack.{Stack}
use Rattle.machine.specs.declared.state.Machine.{Machine}
use Rattle.machine.specs.Bytes.{bytes}
use Rattle.machine.specs.State.{view}
use Rattle.machine.specs.Suits.{Suited, Suits, Reaches}
use Rattle.machine.specs.Step.{stack_asks}
use Rattle.machine.proofs.Heaped.{length_heaped}

pub length_bytes : (s : Stack) → length (bytes s) ≡ s.depth
unfolding bytes
length_bytes s = length_heaped s.cells s.depth

-- an accepted question was answered yes
answered_yes : (b : Bool) (v : Verdict) (n p : ℕ) → accepted ≡ cond b v (refused n p) → (b ≡ true) × (accepted ≡ v)
answered_yes true v n p e = (refl, e)
answered_yes false v n p e = absurd (let z : ◌≡◌ {A = ℕ} 0 1 = cc in omega arith)

-- what the questions to the stacks leave
pub record Passed (limits : Settings) (i : Instruction) (m : Machine) : Type 0 where
  pub enough : i.family.needs ≤ m.stack.depth
  pub enough_returns : i.family.takes ≤ m.returns.depth
  pub within : m.stack.depth - i.family.needs + i.family.leaves ≤ limits.stack
  pub within_returns : m.returns.depth - i.family.takes + i.family.gives ≤ limits.returns

pub passes : (limits : Settings) (i : Instruction) (m : Machine) → accepted ≡ first_no (stack_asks limits i (view m)) → Passed limits i m
passes limits i m e =
    let x = length (bytes m.stack) in
    let y = length (bytes m.returns) in
    let a = answered_yes (leb i.family.needs x) _ _ _ e in
    let b = answered_yes (leb i.family.takes y) _ _ _ a.1 in
    let c = answered_yes (leb (x - i.family.needs + i.family.leaves) limits.stack) _ _ _ b.1 in
    let d = answered_yes (leb (y - i.family.takes + i.family.gives) limits.returns) _ _ _ c.1 in
    let la : x ≡ m.stack.depth = length_bytes m.stack in
    let lb : y ≡ m.returns.depth = length_bytes m.returns in
    let ha : i.family.needs ≤ x = leb-true _ _ a.0 in
    let hb : i.family.takes ≤ y = leb-true _ _ b.0 in
    let hc : x - i.family.needs + i.family.leaves ≤ limits.stack = leb-true _ _ c.0 in
    let hd : y - i.family.takes + i.family.gives ≤ limits.returns = leb-true _ _ d.0 in
    record { enough = omega arith; enough_returns = omega arith; within = omega arith; within_returns = omega arith }

-- the access has its pointer and its bytes

pointed : (n top : ℕ) → leb top 3 ≡ true → n ≤ top → n < 4
pointed n top e h = let k = leb-true top 3 e in omega arith

deep : (k needs d : ℕ) → leb (suc k) needs ≡ true → needs ≤ d → k < d
deep k needs d e h = let j = leb-true (suc k) needs e in omega arith

reaches_of : (m : Memory) (n : ℕ) (x : Operand) (top needs d : ℕ) → reaches_enough m top needs ≡ true → n ≤ top → needs ≤ d → Reaches (reached m n x) d
reaches_of Nowhere n x t l d e h j = tt
reaches_of (Read Absolute) n x t l d e h j = tt
reaches_of (Read Relative) n x t l d e h j = pointed n t e h
reaches_of (Read Indexed) n x t l d e h j =
    let p = and_parts (leb t 3) (leb 1 l) e in (pointed n t p.0 h, deep 0 l d p.1 j)
reaches_of (Write Absolute) n x t l d e h j = (tt, deep 0 l d e j)
reaches_of (Write Relative) n x t l d e h j =
    let p = and_parts (leb t 3) (leb 1 l) e in (pointed n t p.0 h, deep 0 l d p.1 j)
reaches_of (Write Indexed) n x t l d e h j =
    let p = and_parts (leb t 3) (leb 2 l) e in
    let q = deep 1 l d p.1 j in
    ((pointed n t p.0 h, omega arith), q)

pub reaches : (i : Instruction) (d : ℕ) → Listed i → i.family.needs ≤ d → Reaches (reach i) d
reaches i d l h =
    let r = rowed i l in
    reaches_of i.family.memory i.number i.operand (i.family.last - i.family.first) i.family.needs d r.rule.reaches r.low h

low_limits : (limits : Settings) → (limits.stack ≤ 255) × (limits.returns ≤ 255)
low_limits limits =
    let a = and_parts (leb 1 limits.stack) _ limits.limits in
    let b = and_parts (leb limits.stack 255) _ a.1 in
    let c = and_parts (leb 2 limits.returns) _ b.1 in
    (leb-true limits.stack 255 b.0, leb-true limits.returns 255 c.1)

pub suits : (limits : Settings) (i : Instruction) (m : Machine) → Listed i → Passed limits i m
    → Suits i.family.kind i.number m.stack.depth m.returns.depth
suits limits i m l p =
    let r = rowed i l in
    let low = low_limits limits in
    let h0 = p.enough in let h1 = p.enough_returns in let h2 = p.within in let h3 = p.within_returns in
    subst (λ (f : Family). Suited f i.number m.stack.depth m.returns.depth) r.row
    (record { low = r.low; enough = h0; within = omega arith; enough_returns = h1; within_returns = omega arith })

-- the same of an instruction whose questions to the stacks were all answered yes

pub reaches_passed : (limits : Settings) (i : Instruction) (m : Machine) (o : MemoryOperand) → Listed i → accepted ≡ first_no (stack_asks limits i (view m)) → o ≡ reach i → Reaches o m.stack.depth
reaches_passed limits i m o l e q = subst (λ (x : MemoryOperand). Reaches x m.stack.depth) (sym q) (reaches i m.stack.depth l (passes limits i m e).enough)

pub suits_passed : (limits : Settings) (i : Instruction) (m : Machine) → Listed i → accepted ≡ first_no (stack_asks limits i (view m)) → Suits i.family.kind i.number m.stack.depth m.returns.depth
suits_passed limits i m l e = suits limits i m l (passes limits i m e)

pub listed_row : (i : Instruction) → Listed i → i.family ≡ row_of i.family.kind
listed_row i l = (rowed i l).row
