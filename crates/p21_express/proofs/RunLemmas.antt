-- Bytes at the front that pass a test.
use Rattle.std.proofs.Common.{◌≡◌, ℕ, ◌+◌, Bool, true, false, cond, List, [], ◌∷◌, ◌++◌, length, take, drop, refl, sym, ◌∙◌, one-add}
use Rattle.std.specs.List.{AllByRecursion, prefix_len}
use Rattle.p21_express.specs.Words.{GoesOnWithout}

module _ (P : ℕ → Type 0) (test : ℕ → Bool) where
  holds_step : (b : ℕ) (text : List ℕ) (t : Bool) → test b ≡ t → (test b ≡ true → P b) → AllByRecursion P (take (prefix_len test text) text) → AllByRecursion P (take (cond t (1 + prefix_len test text) 0) (b ∷ text))
  holds_step b text true e one all = rw (one-add (prefix_len test text)) (one e, all)
  holds_step b text false e one all = tt

  pub run_holds : ((b : ℕ) → test b ≡ true → P b) → (text : List ℕ) → AllByRecursion P (take (prefix_len test text) text)
  run_holds yes-is [] = tt
  run_holds yes-is (b ∷ text) = holds_step b text (test b) refl (yes-is b) (run_holds yes-is text)

  stops_step : (b : ℕ) (text : List ℕ) (t : Bool) → test b ≡ t → (P b → test b ≡ true) → GoesOnWithout P (drop (prefix_len test text) text) → GoesOnWithout P (drop (cond t (1 + prefix_len test text) 0) (b ∷ text))
  stops_step b text true e one all = rw (one-add (prefix_len test text)) all
  stops_step b text false e one all = λ p. absurd (let f : true ≡ false = sym (one p) ∙ e in cc)

  pub run_stops : ((b : ℕ) → P b → test b ≡ true) → (text : List ℕ) → GoesOnWithout P (drop (prefix_len test text) text)
  run_stops no-is [] = tt
  run_stops no-is (b ∷ text) = stops_step b text (test b) refl (no-is b) (run_stops no-is text)

  none_step : (b : ℕ) (rest : List ℕ) (t : Bool) → test b ≡ t → (test b ≡ true → P b) → ¬ (P b) → cond t (1 + prefix_len test rest) 0 ≡ 0
  none_step b rest true e one stop = absurd (stop (one e))
  none_step b rest false e one stop = refl

  pub run_len : ((b : ℕ) → test b ≡ true → P b) → ((b : ℕ) → P b → test b ≡ true) → (run rest : List ℕ) → AllByRecursion P run → GoesOnWithout P rest → prefix_len test (run ++ rest) ≡ length run
  run_len yes-is no-is [] [] all stop = refl
  run_len yes-is no-is [] (b ∷ rest) all stop = none_step b rest (test b) refl (yes-is b) stop
  run_len yes-is no-is (b ∷ run) rest all stop = rw (no-is b all.0, run_len yes-is no-is run rest all.1 stop) (one-add (length run))
