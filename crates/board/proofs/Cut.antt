-- The cells that there are, of the memory for the most.
use Rattle.std.proofs.Common.{◌≡◌, ℕ, ◌<◌, ◌≤◌, List, set, take, replicate}
use Rattle.std.proofs.lemmas.List.{take-replicate}
use Rattle.std.proofs.Math.Seq.{take-set-lt}

pub zeros_cut : (m n : ℕ) → m ≤ n → take {A = ℕ} m (replicate n 0) ≡ replicate m 0
zeros_cut m n h = take-replicate m n 0 h

pub byte_cut : (n : ℕ) (xs : List ℕ) (i a : ℕ) → i < n → take n (set xs i a) ≡ set (take n xs) i a
byte_cut n xs i a h = take-set-lt n xs i a h
