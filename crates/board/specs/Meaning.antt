-- What a board is: which addresses may be read and written, which hold a byte, and what an access answers and changes.
use Rattle.std.specs.Prelude.{◌≡◌, ℕ, suc, ◌-◌, Bool, true, cond, ◌&&◌, ◌≢◌}
use Rattle.std.specs.List.{list_all, range_with_len}
use Rattle.refusal.specs.declared.Question.TheVariants.{AccessDenied}
use Rattle.refusal.specs.declared.Refusal.{Refusal}
use Rattle.board.specs.declared.Right.{Right}
use Rattle.board.specs.declared.Right.TheVariants.{Read, Write, Both}

-- The state of a board is the value of its type B. An address that is not held is live.
pub record Meaning (B : Type 0) : Type 0 where
  pub readable : B → ℕ → Bool
  pub writable : B → ℕ → Bool
  pub held : B → ℕ → Bool
  -- the byte that a held address holds
  pub byte : B → ℕ → ℕ
  -- The byte that a read of a live address answers. It follows from the board's state, and nothing more is said of it.
  pub live : B → ℕ → ℕ
  -- the board after an accepted read, and after an accepted write of a byte
  pub after_read : B → ℕ → B
  pub after_write : B → ℕ → ℕ → B

-- The rules that every board keeps, of each accepted access: the three sets never change, a read changes no held byte, and a
-- write changes the held byte at its own address and no other.
pub record Lawful {B : Type 0} (m : Meaning B) : Type 0 where
  pub held_readable : (b : B) (a : ℕ) → m.held b a ≡ true → m.readable b a ≡ true
  pub read_readable : (b : B) (x a : ℕ) → m.readable b x ≡ true → m.readable (m.after_read b x) a ≡ m.readable b a
  pub read_writable : (b : B) (x a : ℕ) → m.readable b x ≡ true → m.writable (m.after_read b x) a ≡ m.writable b a
  pub read_held : (b : B) (x a : ℕ) → m.readable b x ≡ true → m.held (m.after_read b x) a ≡ m.held b a
  pub read_byte : (b : B) (x a : ℕ) → m.readable b x ≡ true → m.held b a ≡ true → m.byte (m.after_read b x) a ≡ m.byte b a
  pub write_readable : (b : B) (x v a : ℕ) → m.writable b x ≡ true → m.readable (m.after_write b x v) a ≡ m.readable b a
  pub write_writable : (b : B) (x v a : ℕ) → m.writable b x ≡ true → m.writable (m.after_write b x v) a ≡ m.writable b a
  pub write_held : (b : B) (x v a : ℕ) → m.writable b x ≡ true → m.held (m.after_write b x v) a ≡ m.held b a
  pub write_sets : (b : B) (x v : ℕ) → m.writable b x ≡ true → m.held b x ≡ true → m.byte (m.after_write b x v) x ≡ v
  pub write_keeps : (b : B) (x v a : ℕ) → m.writable b x ≡ true → a ≢ x → m.held b a ≡ true → m.byte (m.after_write b x v) a ≡ m.byte b a

-- the byte that an accepted read answers
abbrev pub answer : {B : Type 0} → Meaning B → B → ℕ → ℕ
answer m b a = cond (m.held b a) (m.byte b a) (m.live b a)

-- the refusal of an access to an address
abbrev pub denied : ℕ → Refusal
denied a = record { question = AccessDenied; place = a }

-- the board has the right at an address
abbrev pub allowed : {B : Type 0} → Meaning B → B → Right → ℕ → Bool
allowed m b Read a = m.readable b a
allowed m b Write a = m.writable b a
allowed m b Both a = m.readable b a && m.writable b a

-- the test passes at each number from the first to the last
unfoldable pub between : (ℕ → Bool) → ℕ → ℕ → Bool
between p first last = list_all p (range_with_len first (suc last - first))

-- the board has the right at every address from the first to the last
abbrev pub spans : {B : Type 0} → Meaning B → B → Right → ℕ → ℕ → Bool
spans m b right first last = between (allowed m b right) first last
