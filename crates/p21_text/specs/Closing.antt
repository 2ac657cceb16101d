-- Where a string closes, after its first apostrophe: the items are passed one by one.
use Rattle.std.specs.Prelude.{◌≡◌, ◌≢◌, ℕ, ◌+◌, ◌<◌, List, drop, slice_index}
use Rattle.p21_text.specs.ItemShapes.{shape}

-- the string closes at this place
pub data Closes : List ℕ → ℕ → Type 0 where
  here : {text : List ℕ} → shape text ≡ 0 → slice_index text 0 ≡ 39 → Closes text 0
  later : {text : List ℕ} {n m : ℕ} → 0 < shape text → Closes (drop (shape text) text) n → m ≡ shape text + n → Closes text m

-- the string closes nowhere
pub data NeverCloses : List ℕ → Type 0 where
  here : {text : List ℕ} → shape text ≡ 0 → slice_index text 0 ≢ 39 → NeverCloses text
  later : {text : List ℕ} → 0 < shape text → NeverCloses (drop (shape text) text) → NeverCloses text
