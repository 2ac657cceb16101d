-- The value of digits, as a loop finds it.
use Rattle.std.proofs.Common.{◌≡◌, ℕ, zero, suc, ◌+◌, ◌-◌, ◌*◌, ◌^◌, ◌<◌, ◌≤◌, List, [], ◌∷◌, length, get_or, take, true, arith, rules}
use borrow.Author.Tests.{tests}
use Rattle.std.proofs.Math.Nat.{pow-succ'}
use Rattle.std.specs.List.{AllByRecursion, prefix_len}
use Rattle.p21_express.specs.Lexer.{digit}
use Rattle.p21_express.proofs.RunLemmas.{run_holds}
use Rattle.p21_express.specs.Words.{IsDigit}

pub digit_at : (ds : List ℕ) (i : ℕ) → AllByRecursion IsDigit ds → i < length ds → IsDigit (get_or ds i 0)
digit_at [] i all lt = absurd (omega arith)
digit_at (d ∷ ds) zero all lt = all.0
digit_at (d ∷ ds) (suc i) all lt = digit_at ds i all.1 (omega arith)

pub power_below : (n i : ℕ) → i + n ≡ 18 → 10 ^ i ≤ 10 ^ 18
power_below zero i e = let k : i ≡ 18 = omega arith in rw k (omega arith)
power_below (suc n) i e =
    let h : 10 ^ (suc i) ≤ 10 ^ 18 = power_below n (suc i) (omega arith) in
    let p : 10 ^ suc i ≡ 10 * 10 ^ i = pow-succ' 10 i in
    omega arith

digit_true : (b : ℕ) → digit b ≡ true → IsDigit b
digit_true b h = search (rules, tests)

pub run_digits : (text : List ℕ) → AllByRecursion IsDigit (take (prefix_len digit text) text)
run_digits text = run_holds IsDigit digit digit_true text
