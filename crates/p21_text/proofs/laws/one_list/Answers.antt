use Rattle.std.proofs.Common.{◌≡◌, ◌⊎◌, inl, inr, [], ◌∷◌, refl}
use Rattle.p21_text.specs.declared.token.Token.{Token}
use Rattle.p21_text.specs.declared.token.Token.TheVariants as variants
use Rattle.p21_text.specs.Spelling.{symbol}
use Rattle.p21_text.specs.Tokens.{Placed, IsLast, Tokens, placed}
use Rattle.p21_text.specs.Tokens as tokens
use Rattle.p21_text.proofs.UniqueLemmas.{tokens_once}
use Rattle.p21_text.proofs.laws.one_list.Goals as goal

last_symbol : (t : Token) → (t ≡ variants.End) ⊎ (t ≡ variants.Bad) → IsLast (symbol t)
last_symbol t (inl e) = rw e tokens.at_end
last_symbol t (inr e) = rw e tokens.at_bad

last_token : (t : Token) → IsLast (symbol t) → (t ≡ variants.End) ⊎ (t ≡ variants.Bad)
last_token variants.End h = inl refl
last_token variants.Bad h = inr refl
last_token _ h = elim h [ ]

not_last : (t : Token) → ¬ (t ≡ variants.End) → ¬ (t ≡ variants.Bad) → ¬ (IsLast (symbol t))
not_last t no_end no_bad h = elim (last_token t h) [ inl e ↦ no_end e | inr e ↦ no_bad e ]

pub returns-in-End : goal.returns-in-End
returns-in-End c =
    let t = placed c.next_token-lexed.result in
    let here : Tokens c.args.text.now c.loop-place.place (t ∷ []) = tokens.last c.next_token-lexed.ensures.first (last_symbol c.next_token-lexed.result.token c.in-End.is) in
    let found = c.loop-place.invariant.goes (t ∷ []) here in
    (found.0, found.1, λ us other. tokens_once c.args.text.now c.args.at us found.0 other found.1)

pub loop-place-preserved : goal.loop-place-preserved
loop-place-preserved c =
    let t = placed c.next_token-lexed.result in
    let more : ¬ (IsLast (symbol c.next_token-lexed.result.token)) = not_last c.next_token-lexed.result.token c.in_default.not-End c.in_default.not-Bad in
    record {
      within = c.next_token-lexed.ensures.within;
      goes = λ ts rest. c.loop-place.invariant.goes (t ∷ ts) (tokens.more c.next_token-lexed.ensures.first more rest);
    }
