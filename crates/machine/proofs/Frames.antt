-- The frame law, a line for each kind, and the depth law, which follows from it.
use Rattle.std.proofs.Common.{◌≡◌, ℕ, zero, suc, ◌+◌, ◌-◌, ◌*◌, ◌%◌, ◌<◌, ◌≤◌, Bool, true, false, cond, eqb, leb, ◌≢◌, List, [], ◌∷◌, ◌++◌, length, get_or, take, drop, set, replicate, Some, None, Option, sym, refl, ap, ◌∙◌, subst, arith, length-append, length-drop, length-set, take-append-drop, length-take, rules, get_or-set_other, get_or-set_same}
use lib.ListN.{length-replicate}
use Rattle.std.proofs.lemmas.Bool.{leb-true, eqb-true, eqb-false, and_parts}
use Rattle.instruction.specs.declared.table.Kind.{Kind}
use Rattle.instruction.specs.declared.table.Kind.TheVariants.{Not, Increment, Decrement, Binary, AddCarry, Immediate, BinaryReturn, PushShort, PushByte, PushWord, PushTop, PushNext, PushDeep, PopDeep, PushRegister, PopRegister, PushPointer, PopPointer, PushAbsolute, PopAbsolute, PushRelative, PopRelative, PushIndexed, PopIndexed, PushReturn, PushPop, PopPush, Exchange, DropTop, DropNext, Allocate, Deallocate, Branch, BranchNonzero, BranchZero, ShortBranch, ShortBranchZero, ShortBranchNonzero, CallFar, Ret}
use Rattle.instruction.specs.declared.table.Turn.{Turn}
use Rattle.instruction.specs.declared.table.Turn.TheVariants.{On as Onward, Jump, IfZero, IfNonzero, Call, Return}
use Rattle.instruction.specs.declared.table.Family.{Family}
use Rattle.instruction.specs.declared.decoding.Operand.{Operand}
use Rattle.instruction.specs.declared.decoding.Instruction.{Instruction}
use Rattle.instruction.specs.Table.{row_of}
use Rattle.instruction.specs.Decode.{Listed}
use Rattle.instruction.specs.Flow.{turned, ends, address_taken, address_left, own_takes, own_gives}
use Rattle.instruction.specs.Claim.{Knows, unsure, from_to, past, claim, learns}
use Rattle.instruction.proofs.Rows.{turns_enough, rowed}
use Rattle.machine.specs.Bytes.{rest}
use Rattle.machine.specs.State.{State, tos, next}
use Rattle.machine.specs.Effect.{effect, returns_after}
use Rattle.machine.specs.Step.{does, wants, done}
use Rattle.machine.specs.Law.{DepthLaw, On, Is, Agrees, Spans, Covered, pointers_after, Framed, Replaced, FrameLaw}

-- so many bytes on others, and what is done to them

pub as_on : (d e : ℕ) {u xs : List ℕ} → d ≡ e → On d u xs → On e u xs
as_on d e q o = record { own = o.own; many = o.many ∙ q; is = o.is }

pub cons_on : (d x : ℕ) {u xs : List ℕ} → On d u xs → On (suc d) u (x ∷ xs)
cons_on d x o = record { own = x ∷ o.own; many = ap suc o.many; is = ap (λ l. x ∷ l) o.is }

pub rest-on : (d : ℕ) {u xs : List ℕ} → On (suc d) u xs → On d u (rest xs)
rest-on d {u} {xs} o = go o.own o.many o.is
  where
    go : (ys : List ℕ) → length ys ≡ suc d → xs ≡ ys ++ u → On d u (rest xs)
    go [] l e = absurd (omega arith)
    go (y ∷ ys) l e = record { own = ys; many = omega arith; is = ap rest e }

grow_on : (k f : ℕ) {u xs : List ℕ} → On 0 u xs → On k u (replicate k f ++ xs)
grow_on k f {u} o = go o.own o.many o.is
  where
    go : {xs : List ℕ} (ys : List ℕ) → length ys ≡ 0 → xs ≡ ys ++ u → On k u (replicate k f ++ xs)
    go [] l e = record { own = replicate k f; many = length-replicate k f; is = ap (λ z. replicate k f ++ z) e }
    go (y ∷ ys) l e = absurd (omega arith)

drop_own : (k : ℕ) (ys u : List ℕ) → length ys ≡ k → drop k (ys ++ u) ≡ u
drop_own zero [] u l = refl
drop_own zero (y ∷ ys) u l = absurd (omega arith)
drop_own (suc k) [] u l = absurd (omega arith)
drop_own (suc k) (y ∷ ys) u l = drop_own k ys u (omega arith)

drop-on : (k : ℕ) {u xs : List ℕ} → On k u xs → On 0 u (drop k xs)
drop-on k {u} o = record { own = []; many = refl; is = ap (λ z. drop k z) o.is ∙ drop_own k o.own u o.many }

set_own : (k v : ℕ) (ys u : List ℕ) → k < length ys → set (ys ++ u) k v ≡ set ys k v ++ u
set_own zero v [] u h = absurd (omega arith)
set_own (suc k) v [] u h = absurd (omega arith)
set_own zero v (y ∷ ys) u h = refl
set_own (suc k) v (y ∷ ys) u h = ap (λ z. y ∷ z) (set_own k v ys u (omega arith))

set_on : (d k v : ℕ) {u xs : List ℕ} → k < d → On d u xs → On d u (set xs k v)
set_on d k v {u} h o =
    let m = o.many in
    record { own = set o.own k v; many = length-set o.own k v ∙ o.many; is = ap (λ z. set z k v) o.is ∙ set_own k v o.own u (omega arith) }

-- knowledge that stays as it is

still : {k : Knows} {s e : State} → Agrees k s → e.pointers ≡ s.pointers → Agrees (record { pointer = k.pointer; top = None }) e
still {k} {s} {e} a q = record { pointer = λ p h. subst (λ z. Is (k.pointer p) (get_or z p 0)) (sym q) (a.pointer p h); top = tt }

picks : (b : Bool) (x y : Option ℕ) (g : ℕ) → (b ≡ true → Is x g) → (b ≡ false → Is y g) → Is (cond b x y) g
picks true x y g h k = h refl
picks false x y g h k = k refl

loads : (k : Knows) (p : ℕ) (s : State) → p < 4 → length s.pointers ≡ 4 → Agrees k s → {e : State} → e.pointers ≡ set s.pointers p (next s * 256 + tos s) →
    Agrees (record { pointer = λ j. cond (eqb j p) k.top (k.pointer j); top = None }) e
loads k p s h l a {e} q = record {
  pointer = λ j lt.
      subst (λ z. Is (cond (eqb j p) k.top (k.pointer j)) (get_or z j 0)) (sym q)
      (picks (eqb j p) k.top (k.pointer j) (get_or (set s.pointers p (next s * 256 + tos s)) j 0)
      (λ b.
      let same : j ≡ p = eqb-true j p b in
      subst (λ z. Is k.top z)
      (sym (ap (λ z. get_or (set s.pointers p (next s * 256 + tos s)) z 0) same ∙ get_or-set_same s.pointers p (next s * 256 + tos s) 0 (omega arith)))
      a.top)
      (λ b.
      let other : j ≢ p = eqb-false j p b in
      subst (λ z. Is (k.pointer j) z) (sym (get_or-set_other s.pointers p j (next s * 256 + tos s) 0 other)) (a.pointer j lt)));
  top = tt;
}

-- the access lies in the claimed span

past-covers : (p f l a : ℕ) (b : Bool) → leb (p + l) 65535 ≡ b → (p + l ≤ 65535 → (p + f ≤ a) × (a ≤ p + l)) → Spans (cond b (from_to (p + f) (p + l)) unsure) a
past-covers p f l a true e h = h (leb-true _ _ e)
past-covers p f l a false e h = tt

offset-covers : (x : Option ℕ) (g w : ℕ) → Is x g → Spans (past x w w) ((g + w) % 65536)
offset-covers None g w i = tt
offset-covers (Some p) g w i = past-covers p w w ((g + w) % 65536) (leb (p + w) 65535) refl (λ h. (omega arith, omega arith))

indexed_covers : (x : Option ℕ) (g b : ℕ) → Is x g → Spans (past x 0 255) ((g + b % 256) % 65536)
indexed_covers None g b i = tt
indexed_covers (Some p) g b i = past-covers p 0 255 ((g + b % 256) % 65536) (leb (p + 255) 65535) refl (λ h. (omega arith, omega arith))

-- a kind that changes no pointer, from what it does to both stacks and the access that it makes
simply : (i : Instruction) (s e : State) →
    ((u : List ℕ) → On i.family.needs u s.stack → On i.family.leaves u e.stack) →
    ((u : List ℕ) → On (own_takes i) u s.returns → On (own_gives i) u e.returns) →
    ((k : Knows) → Agrees k s → Covered (claim i k) (wants i s)) →
    ((k : Knows) → Agrees k s → Agrees (learns i k) e) →
    (e.pointers ≡ pointers_after i.family.transfer i s) × (e.ip ≡ s.ip) × (e.cycles ≡ s.cycles) → Framed i s e
simply i s e d r a l k = record { stack = d; returns = r; access = a; learned = λ j four. l j; pointers = k.0; ip = k.1; cycles = k.2 }

-- what a kind does to both stacks is one of these after another
ruleset framing = (rules, arith, as_on, cons_on, rest-on, grow_on, drop-on, set_on, still, offset-covers, indexed_covers, simply)

-- three kinds are written out: of `PushDeep` and `Exchange` the search does not find which bytes stand on which, and `PopPointer` alone
-- makes a pointer known
frame : (k : Kind) (n : ℕ) (x : Operand) (b f : ℕ) (s : State) → n ≤ (row_of k).last - (row_of k).first →
    Framed (record { family = row_of k; number = n; operand = x }) s (effect k n x b f s)
frame Not n x b f s h = search framing
frame Increment n x b f s h = search framing
frame Decrement n x b f s h = search framing
frame (Binary o) n x b f s h = search framing
frame AddCarry n x b f s h = search framing
frame (Immediate o) n x b f s h = search framing
frame (BinaryReturn o) n x b f s h = search framing
frame PushShort n x b f s h = search framing
frame PushByte n x b f s h = search framing
frame PushWord n x b f s h = search framing
frame PushTop n x b f s h = search framing
frame PushNext n x b f s h = search framing
frame (PushDeep m) n x b f s h = simply _ s _ (λ u o. as_on _ _ (omega arith) (cons_on (m + 2) _ o)) (λ u o. o) (λ k a. tt) (λ k a. still a refl) (refl, refl, refl)
frame (PopDeep m) n x b f s h = search framing
frame PushRegister n x b f s h = search framing
frame PopRegister n x b f s h = search framing
frame PushPointer n x b f s h = search framing
frame PopPointer n x b f s h = record {
  stack = λ u o. rest-on 0 (rest-on 1 o);
  returns = λ u o. o;
  access = λ k a. tt;
  pointers = refl;
  learned = λ k four a. loads k n s (omega arith) four a refl;
  ip = refl;
  cycles = refl;
}
frame PushAbsolute n x b f s h = search framing
frame PopAbsolute n x b f s h = search framing
frame PushRelative n x b f s h = search framing
frame PopRelative n x b f s h = search framing
frame PushIndexed n x b f s h = search framing
frame PopIndexed n x b f s h = search framing
frame PushReturn n x b f s h = search framing
frame PushPop n x b f s h = search framing
frame PopPush n x b f s h = search framing
frame Exchange n x b f s h = simply _ s _ (λ u o. cons_on 1 _ (cons_on 0 _ (rest-on 0 (rest-on 1 o)))) (λ u o. o) (λ k a. tt) (λ k a. still a refl) (refl, refl, refl)
frame DropTop n x b f s h = search framing
frame DropNext n x b f s h = search framing
frame (Allocate m) n x b f s h = search framing
frame (Deallocate m) n x b f s h = search framing
frame Branch n x b f s h = search framing
frame BranchNonzero n x b f s h = search framing
frame BranchZero n x b f s h = search framing
frame ShortBranch n x b f s h = search framing
frame ShortBranchZero n x b f s h = search framing
frame ShortBranchNonzero n x b f s h = search framing
frame CallFar n x b f s h = search framing
frame Ret n x b f s h = search framing

pub framed : (i : Instruction) (b f : ℕ) (s : State) → Listed i → Framed i s (does i b f s)
framed i b f s l =
    let r = rowed i l in
    subst (λ (y : Family). Framed (record { family = y; number = i.number; operand = i.operand }) s (does i b f s)) (sym r.row)
    (frame i.family.kind i.number i.operand b f s (subst (λ (y : Family). i.number ≤ y.last - y.first) r.row r.low))

none_own : {u xs : List ℕ} → On 0 u xs → xs ≡ u
none_own {u} {xs} o = go o.own o.many o.is
  where
    go : (ys : List ℕ) → length ys ≡ 0 → xs ≡ ys ++ u → xs ≡ u
    go [] l e = e
    go (y ∷ ys) l e = absurd (omega arith)

-- control takes or leaves a return address beside what the effect does to the return stack
returned : (t : Turn) (n : ℕ) (x : Operand) (end back needs takes gives : ℕ) (u xs ys : List ℕ) → turns_enough t needs takes gives ≡ true → On takes u xs
    → ((v : List ℕ) → On (takes - address_taken t) v xs → On (gives - address_left t) v ys) → On gives u (returns_after (turned t n x end) back ys)
returned Onward n x end back needs takes gives u xs ys e o f = as_on _ _ (omega arith) (f u (as_on _ _ (omega arith) o))
returned (Jump d) n x end back needs takes gives u xs ys e o f = as_on _ _ (omega arith) (f u (as_on _ _ (omega arith) o))
returned (IfZero d) n x end back needs takes gives u xs ys e o f = as_on _ _ (omega arith) (f u (as_on _ _ (omega arith) o))
returned (IfNonzero d) n x end back needs takes gives u xs ys e o f = as_on _ _ (omega arith) (f u (as_on _ _ (omega arith) o))
returned Call n x end back needs takes gives u xs ys e o f =
    let two : gives ≡ 2 = eqb-true gives 2 (and_parts (eqb takes 0) (eqb gives 2) e).1 in
    as_on _ _ (omega arith) (cons_on 1 _ (cons_on 0 _ (as_on _ 0 (omega arith) (f u (as_on _ _ (omega arith) o)))))
returned Return n x end back needs takes gives u xs ys e o f =
    let both = and_parts (eqb takes 2) (eqb gives 0) e in
    let two : takes ≡ 2 = eqb-true takes 2 both.0 in
    let none : gives ≡ 0 = eqb-true gives 0 both.1 in
    let same : ys ≡ xs = none_own (as_on _ 0 (omega arith) (f xs (record { own = []; many = omega arith; is = refl }))) in
    as_on _ _ (omega arith) (subst (λ zs. On 0 u (rest (rest zs))) (sym same) (rest-on 0 (rest-on 1 (as_on _ 2 (omega arith) o))))

replaced : (i : Instruction) (b f : ℕ) (s : State) → Listed i → Framed i s (does i b f s) → Replaced i s (done i b f s)
replaced i b f s l r = record {
  stack = r.stack;
  returns = λ u o.
      returned i.family.turn i.number i.operand (ends i s.ip) (ends i s.ip) i.family.needs i.family.takes i.family.gives
      u s.returns (does i b f s).returns (rowed i l).rule.turns o r.returns;
}

pub frames : FrameLaw
frames i b f s l = (framed i b f s l, replaced i b f s l (framed i b f s l))

-- The depth law.

same_length : (d : ℕ) {u xs : List ℕ} → On d u xs → length xs ≡ d + length u
same_length d {u} o = ap length o.is ∙ length-append o.own u ∙ ap (λ n. n + length u) o.many

-- the top d bytes of a stack on the others
parted : (d : ℕ) (xs : List ℕ) → d ≤ length xs → On d (drop d xs) xs
parted d xs h = record { own = take d xs; many = simp length-take (omega arith); is = sym (take-append-drop d xs) }

pub depths : DepthLaw
depths i b f s l = record {
  stack = λ h.
      let a = same_length i.family.leaves (r.stack (drop i.family.needs s.stack) (parted i.family.needs s.stack h)) in
      let d = length-drop i.family.needs s.stack in
      omega arith;
  returns = λ h.
      let a = same_length i.family.gives (r.returns (drop i.family.takes s.returns) (parted i.family.takes s.returns h)) in
      let d = length-drop i.family.takes s.returns in
      omega arith;
}
  where
    r : Replaced i s (done i b f s)
    r = (frames i b f s l).1
