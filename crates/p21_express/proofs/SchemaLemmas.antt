-- Declarations, as their loop reads them.
use Rattle.std.proofs.Common.{◌≡◌, ℕ, ◌<◌, true, false, List, [], ◌∷◌, ◌++◌, length, Option, Some, None, refl, sym, ap, ◌∙◌, eqb}
use Rattle.std.specs.Prelude.{codes}
use Rattle.p21_express.specs.Word.{Word, begins_name}
use Rattle.p21_express.specs.Schema.{Schema, Entity, Defined}
use Rattle.p21_express.specs.Grammar.{Declaration, an_entity, a_type, skipped, entities_of, types_of}
use Rattle.p21_express.specs.Found.{entities_one, types_one}
use Rattle.p21_express.specs.Reader.{words_of, name_at, word_at, symbol_at, declaration_at, declarations_at, ended, schema_at}
use Rattle.p21_express.specs.declared.word.Word as source
use Rattle.p21_express.proofs.LoopLemmas.{Going, goes_on, is_done, fails}
use Rattle.p21_express.proofs.DeclarationLemmas.{declaration_sound, declaration_shorter}

pub declaration_less : (ws mid : List Word) (d : Declaration) → declaration_at ws ≡ Some (d, mid) → length mid < length ws
declaration_less ws mid d h = declaration_shorter ws mid d (declaration_sound ws (d, mid) h)

-- declarations were read, and these are the entities and types among them
pub record GoingDeclared (whole rest : List Word) (entities : List Entity) (types : List Defined) : Type 0 where
  pub so_far : List Declaration
  pub entities_are : entities ≡ entities_of so_far
  pub types_are : types ≡ types_of so_far
  pub going : Going (begins_name (codes "END_SCHEMA")) declaration_at whole rest so_far

entities_push : (ds : List Declaration) (d : Declaration) → entities_of (ds ++ d ∷ []) ≡ entities_of ds ++ entities_one d
entities_push [] (an_entity e) = refl
entities_push [] (a_type t) = refl
entities_push [] skipped = refl
entities_push (an_entity e ∷ ds) d = ap (λ (es : List Entity). e ∷ es) (entities_push ds d)
entities_push (a_type t ∷ ds) d = entities_push ds d
entities_push (skipped ∷ ds) d = entities_push ds d

types_push : (ds : List Declaration) (d : Declaration) → types_of (ds ++ d ∷ []) ≡ types_of ds ++ types_one d
types_push [] (an_entity e) = refl
types_push [] (a_type t) = refl
types_push [] skipped = refl
types_push (an_entity e ∷ ds) d = types_push ds d
types_push (a_type t ∷ ds) d = ap (λ (ts : List Defined). t ∷ ts) (types_push ds d)
types_push (skipped ∷ ds) d = types_push ds d

pub declared_begins : (whole : List Word) → Going (begins_name (codes "END_SCHEMA")) declaration_at whole whole [] → GoingDeclared whole whole [] []
declared_begins whole g = record { so_far = []; entities_are = refl; types_are = refl; going = g }

pub declared_goes : (whole rest mid : List Word) (es : List Entity) (ts : List Defined) (d : Declaration) → GoingDeclared whole rest es ts → begins_name (codes "END_SCHEMA") rest ≡ false → declaration_at rest ≡ Some (d, mid) → GoingDeclared whole mid (es ++ entities_one d) (ts ++ types_one d)
declared_goes whole rest mid es ts d g go read = record {
  so_far = g.so_far ++ d ∷ [];
  entities_are = ap (λ (xs : List Entity). xs ++ entities_one d) g.entities_are ∙ sym (entities_push g.so_far d);
  types_are = ap (λ (xs : List Defined). xs ++ types_one d) g.types_are ∙ sym (types_push g.so_far d);
  going = goes_on (begins_name (codes "END_SCHEMA")) declaration_at whole rest mid g.so_far d g.going (declaration_less rest mid d read) go read;
}

pub declared_done : (ws whole rest : List Word) (es : List Entity) (ts : List Defined) → symbol_at 59 ws ≡ Some whole → GoingDeclared whole rest es ts → begins_name (codes "END_SCHEMA") rest ≡ true → declarations_at ws ≡ Some ((es, ts), rest)
unfolding declarations_at
declared_done ws whole rest es ts h g go = rw (h, is_done (begins_name (codes "END_SCHEMA")) declaration_at whole rest g.so_far g.going go, g.entities_are, g.types_are) refl

pub declared_fails : (ws whole rest : List Word) (es : List Entity) (ts : List Defined) → symbol_at 59 ws ≡ Some whole → GoingDeclared whole rest es ts → begins_name (codes "END_SCHEMA") rest ≡ false → declaration_at rest ≡ None → declarations_at ws ≡ None
unfolding declarations_at
declared_fails ws whole rest es ts h g go read = rw (h, fails (begins_name (codes "END_SCHEMA")) declaration_at whole rest g.so_far g.going go read) refl

pub declared_none : (ws : List Word) → symbol_at 59 ws ≡ None → declarations_at ws ≡ None
unfolding declarations_at
declared_none ws h = rw h refl

ended_none : (ws : List source.Word) (s : Option Schema) → eqb (length ws) 0 ≡ false → ended (words_of ws) s ≡ None
ended_none [] s h = absurd cc
ended_none (w ∷ ws) s h = refl

-- words after the end
pub schema_trailing : (ws first behind mid last : List Word) (n : List ℕ) (x : List Entity × List Defined) (rest : List source.Word) → word_at (codes "SCHEMA") ws ≡ Some first → name_at first ≡ Some (n, behind) → declarations_at behind ≡ Some (x, mid) → word_at (codes "END_SCHEMA") mid ≡ Some last → symbol_at 59 last ≡ Some (words_of rest) → eqb (length rest) 0 ≡ false → schema_at ws ≡ None
unfolding schema_at
schema_trailing ws first behind mid last n x rest a b c d e f = rw (a, b, c, d, e) (ended_none rest _ f)
