use Rattle.std.proofs.Common.{◌≡◌, ℕ, Bool, not, List, length, get_or, take, ap, ◌∙◌, arith, rules, tests}
use Rattle.std.proofs.lemmas.Iterator.{YieldsList-from_slice}
use Rattle.std.proofs.lemmas.Iterator.Consumers.{YieldsList-from_enumerate}
use Rattle.std.proofs.lemmas.Iterator.Search.{all_from_yields_List}
use Rattle.std.proofs.lemmas.List.Folds.{list_all-map}
use Rattle.std.proofs.lemmas.List.FromFn.{fill_by_all, length-enumerate_from, get_or-enumerate_from}
use Rattle.std.specs.List.{list_all, enumerate_from, range_with_len}
use Rattle.board.specs.Addresses.{contains}
use Rattle.board.proofs.ports.access.is_distinct.Goals as goal

-- a test of each number with its place
all_placed : (q : ℕ × ℕ → Bool) (xs : List ℕ) → list_all q (enumerate_from 0 xs) ≡ list_all (λ i. q (i, get_or xs i 0)) (range_with_len 0 (length xs))
all_placed q xs =
    ap (list_all q) (fill_by_all (λ i. (i, get_or xs i 0)) (enumerate_from 0 xs) (length xs) (0, 0) (length-enumerate_from 0 xs)
    (λ k l. get_or-enumerate_from 0 xs k (0, 0) l ∙ ap (λ (z : ℕ). (z, get_or xs k 0)) (omega arith)))
    ∙ list_all-map q (λ i. (i, get_or xs i 0)) (range_with_len 0 (length xs))

pub returns : goal.returns
returns c =
    let q = λ (p : ℕ × ℕ). not (contains (take p.0 c.args.list.now) p.1) in
    all_from_yields_List q _ _ _ c.all.ensures.ran (YieldsList-from_enumerate (YieldsList-from_slice c.args.list.now cc) cc) (λ x b q k. search (rules, tests))
    ∙ all_placed q c.args.list.now
