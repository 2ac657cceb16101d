use Rattle.std.proofs.Common.{◌≡◌, ◌≤◌, ℕ, length, drop, Option, Some, sym, ap, subst, ◌∙◌}
use Rattle.std.specs.Prelude.{option_map}
use Rattle.std.proofs.lemmas.List.{take_rest, map_push}
use Rattle.std.proofs.lemmas.Bool.{eqb-true}
use Rattle.p21_express.specs.declared.word.Word as source
use Rattle.p21_express.specs.Lexer.{front_at}
use Rattle.p21_express.specs.Reader.{word_of, words_of}
use Rattle.p21_express.proofs.ChecksLemmas.{all_push}
use Rattle.p21_express.proofs.ScanLemmas.{scans_word, scans_pass, front_shorter, behind_within, scans_whole, scans_broken, none_is, wrong_place}
use Rattle.p21_express.proofs.words.scan.Goals as goal
use Rattle.p21_express.proofs.words.scan.Goals.{in-Some-word+in_ok-push+in_ok-push-2, in_default-word}

pub overflow_sub-at : goal.overflow_sub-at
overflow_sub-at c =
    let h : front_at (drop c.loop-word.at c.args.text.now) ≡ Some (option_map word_of c.in-Some.word, c.in-Some.behind.now) = ap front_at (sym (take_rest c.args.text.now c.loop-word.at)) ∙ sym c.in-Some.ensures in
    behind_within c.args.text.now c.loop-word.at (option_map word_of c.in-Some.word) c.in-Some.behind.now h

pub loop-word-smaller : goal.loop-word-smaller
loop-word-smaller c =
    let h : front_at (drop c.loop-word.at c.args.text.now) ≡ Some (option_map word_of c.in-Some.word, c.in-Some.behind.now) = ap front_at (sym (take_rest c.args.text.now c.loop-word.at)) ∙ sym c.in-Some.ensures in
    front_shorter c.args.text.now c.loop-word.at (option_map word_of c.in-Some.word) c.in-Some.behind.now h

pub loop-word-preserved : goal.loop-word-preserved
loop-word-preserved c =
    let h : front_at (drop c.loop-word.at c.args.text.now) ≡ Some (option_map word_of c.in-Some.word, c.in-Some.behind.now) = ap front_at (sym (take_rest c.args.text.now c.loop-word.at)) ∙ sym c.in-Some.ensures in
    elim c.match-word.branch [
      | in-Some-word+in_ok-push+in_ok-push-2 w ↦ (rw (w.words-is, w.in_ok-push.ensures.items, map_push word_of c.loop-word.words.items w.in-Some-word.word) (scans_word c.args.text.now c.loop-word.at (words_of c.loop-word.words.items) (word_of w.in-Some-word.word) c.in-Some.behind.now c.loop-word.invariant.0 (subst (λ (o : Option source.Word). front_at (drop c.loop-word.at c.args.text.now) ≡ Some (option_map word_of o, c.in-Some.behind.now)) w.in-Some-word.is h)), rw (w.places-is, w.in_ok-push-2.ensures.items) (all_push (λ (place : ℕ). place ≤ length c.args.text.now) c.loop-word.places.items c.loop-word.at c.loop-word.invariant.1 c.loop-word.invariant.0.within))
      | in_default-word w ↦ (rw w.words-is (scans_pass c.args.text.now c.loop-word.at (words_of c.loop-word.words.items) c.in-Some.behind.now c.loop-word.invariant.0 (subst (λ (o : Option source.Word). front_at (drop c.loop-word.at c.args.text.now) ≡ Some (option_map word_of o, c.in-Some.behind.now)) (none_is c.in-Some.word w.in_default-word.not-Some) h)), rw w.places-is c.loop-word.invariant.1)
    ]

pub returns-clause-whole : goal.returns-clause-whole
returns-clause-whole c = λ e. scans_whole c.args.text.now c.loop-word.at (words_of c.loop-word.words.items) c.loop-word.invariant.0 (eqb-true _ _ e)

pub returns-clause-broken : goal.returns-clause-broken
returns-clause-broken c = λ e. scans_broken c.args.text.now c.loop-word.at (words_of c.loop-word.words.items) c.loop-word.invariant.0 (ap front_at (sym (take_rest c.args.text.now c.loop-word.at)) ∙ sym c.in_default.ensures) (wrong_place c.loop-word.at (length c.args.text.now) e)

pub returns-clause-places : goal.returns-clause-places
returns-clause-places c = rw c.in_ok-push-3.ensures.items (all_push (λ (place : ℕ). place ≤ length c.args.text.now) c.loop-word.places.items c.loop-word.at c.loop-word.invariant.1 c.loop-word.invariant.0.within)
