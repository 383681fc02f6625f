-- Two boards and a boundary.
use Rattle.std.specs.Prelude.{ℕ, Bool, cond, nat_lt}
use Rattle.board.specs.Meaning.{Meaning}
use Rattle.board.specs.declared.split.Split.{Split}

module _ {L U : Type 0} where
  -- the address belongs to the first board
  abbrev pub below : Split L U → ℕ → Bool
  below s a = nat_lt a s.boundary

  abbrev pub with_lower : Split L U → L → Split L U
  with_lower s l = record { lower = l; upper = s.upper; boundary = s.boundary }

  abbrev pub with_upper : Split L U → U → Split L U
  with_upper s u = record { lower = s.lower; upper = u; boundary = s.boundary }

  abbrev pub split_meaning : Meaning L → Meaning U → Meaning (Split L U)
  split_meaning m n = record {
    readable = λ s a. cond (below s a) (m.readable s.lower a) (n.readable s.upper a);
    writable = λ s a. cond (below s a) (m.writable s.lower a) (n.writable s.upper a);
    held = λ s a. cond (below s a) (m.held s.lower a) (n.held s.upper a);
    byte = λ s a. cond (below s a) (m.byte s.lower a) (n.byte s.upper a);
    live = λ s a. cond (below s a) (m.live s.lower a) (n.live s.upper a);
    after_read = λ s a. cond (below s a) (with_lower s (m.after_read s.lower a)) (with_upper s (n.after_read s.upper a));
    after_write = λ s a v. cond (below s a) (with_lower s (m.after_write s.lower a v)) (with_upper s (n.after_write s.upper a v));
  }
