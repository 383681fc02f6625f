-- What a step comes to, once its questions to the stacks are answered.
use Rattle.std.proofs.Common.{◌≡◌, ℕ, Bool, true, false, cond, [], ◌∷◌, Some, None, Option, sym, refl, ap, ◌∙◌}
use Rattle.std.proofs.lemmas.Bool.{cond-true, cond-false}
use Rattle.refusal.specs.Questions.{ask, Verdict, accepted, refused, first_no}
use Rattle.refusal.proofs.Verdicts.{then, first_no-++}
use Rattle.board.specs.Meaning.{Meaning}
use Rattle.instruction.specs.declared.decoding.Instruction.{Instruction}
use Rattle.machine.specs.declared.access.Access.{Access}
use Rattle.machine.specs.declared.settings.Settings.{Settings}
use Rattle.machine.specs.State.{State}
use Rattle.machine.specs.Step.{Outcome, accepts, answered, changed, wants, done, stack_asks, step_asks, settled, after}

module _ {B : Type 0} (m : Meaning B) (limits : Settings) (i : Instruction) (s : State) (b : B) where
  -- what the board says where the stacks have passed
  abbrev boarded : Bool → Verdict
  boarded ok = cond ok accepted (refused 75 s.ip)

  abbrev comes_to : Verdict → Outcome B
  comes_to v = settled v s b (done i (answered m (wants i s) b) limits.fill s) (changed m (wants i s) b)

  in_turn : first_no (step_asks m limits (Some i) s b) ≡ then (first_no (stack_asks limits i s)) (boarded (accepts m (wants i s) b))
  in_turn = first_no-++ (stack_asks limits i s) (ask 75 s.ip (accepts m (wants i s) b) ∷ [])

  pub blocked : (n p : ℕ) → refused n p ≡ first_no (stack_asks limits i s)
      → after m limits (Some i) s b ≡ record { verdict = refused n p; machine = s; board = b }
  unfolding after
  blocked n p e = ap comes_to (in_turn ∙ ap (λ v. then v (boarded (accepts m (wants i s) b))) (sym e))

  abbrev told : Access → Option ℕ
  told x = cond (accepts m x b) (Some (answered m x b)) None

  abbrev left : Access → B
  left x = cond (accepts m x b) (changed m x b) b

  -- by what the board answers, and the board after it

  no_byte : (t : Bool) (n : ℕ) → None ≡ cond t (Some n) None → t ≡ false
  no_byte true n e = cc
  no_byte false n e = refl

  one_byte : (t : Bool) (n k : ℕ) → Some k ≡ cond t (Some n) None → (t ≡ true) × (k ≡ n)
  one_byte true n k e = (refl, cc)
  one_byte false n k e = cc

  passed_on : accepted ≡ first_no (stack_asks limits i s) → first_no (step_asks m limits (Some i) s b) ≡ boarded (accepts m (wants i s) b)
  passed_on e = in_turn ∙ ap (λ v. then v (boarded (accepts m (wants i s) b))) (sym e)

  pub denied : (x : Access) (c : B) → x ≡ wants i s → accepted ≡ first_no (stack_asks limits i s) → None ≡ told x → c ≡ left x
      → after m limits (Some i) s b ≡ record { verdict = refused 75 s.ip; machine = s; board = c }
  unfolding after
  denied x c same e answer board =
      let t : accepts m x b ≡ false = no_byte (accepts m x b) (answered m x b) answer in
      let u : accepts m (wants i s) b ≡ false = sym (ap (λ y. accepts m y b) same) ∙ t in
      let kept : c ≡ b = board ∙ cond-false (accepts m x b) (changed m x b) b t in
      ap comes_to (passed_on e ∙ ap boarded u) ∙ ap (λ d. record { verdict = refused 75 s.ip; machine = s; board = d }) (sym kept)

  pub performed : (x : Access) (byte : ℕ) (c : B) → x ≡ wants i s → accepted ≡ first_no (stack_asks limits i s) → Some byte ≡ told x → c ≡ left x
      → after m limits (Some i) s b ≡ record { verdict = accepted; machine = done i byte limits.fill s; board = c }
  unfolding after
  performed x byte c same e answer board =
      let t = one_byte (accepts m x b) (answered m x b) byte answer in
      let u : accepts m (wants i s) b ≡ true = sym (ap (λ y. accepts m y b) same) ∙ t.0 in
      let read : answered m (wants i s) b ≡ byte = sym (ap (λ y. answered m y b) same) ∙ sym t.1 in
      let new : changed m (wants i s) b ≡ c = sym (ap (λ y. changed m y b) same) ∙ sym (board ∙ cond-true (accepts m x b) (changed m x b) b t.0) in
      ap comes_to (passed_on e ∙ ap boarded u)
      ∙ ap (λ k. record { verdict = accepted; machine = done i k limits.fill s; board = changed m (wants i s) b }) read
      ∙ ap (λ d. record { verdict = accepted; machine = done i byte limits.fill s; board = d }) new
