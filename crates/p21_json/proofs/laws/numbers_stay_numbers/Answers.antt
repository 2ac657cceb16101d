use Rattle.std.proofs.Common.{⊎_elim}
use Rattle.p21_text.specs.Spelling.{IsInt, IsReal}
use Rattle.p21_json.proofs.NumeralLemmas.{int_number, real_number}
use Rattle.p21_json.proofs.laws.numbers_stay_numbers.Goals as goal

pub returns : goal.returns
returns c = λ v h. ⊎_elim (λ (i : IsInt v). int_number v i) (λ (r : IsReal v). real_number v r) h
