-- An instance in which no instance name is written has no references.
use Rattle.std.proofs.Common.{◌≡◌, ℕ, zero, suc, ◌+◌, ◌<◌, ◌≤◌, List, [], ◌∷◌, Some, arith, subst}
use Rattle.std.specs.Prelude.{slice_get}
use Rattle.p21_tree.specs.Tree.{Tree, Trees, nil, cons}
use Rattle.p21_tree.specs.Grammar.{Entry}
use Rattle.p21_tree.specs.Sentence.{Instance}
use Rattle.p21_express.specs.Schema.{Schema, Expr}
use Rattle.p21_check.specs.LocalFault.{tree_get}
use Rattle.p21_check.specs.References.{Reference, Refers, RefersAmong, name_count, names_count}
use Rattle.p21_check.specs.References as refers
use Rattle.p21_check.specs.Referred.{AreReferencesOf, HasSomewhere}
use Rattle.p21_counts.specs.Counts.{capped, record_references}

mutual
  refers_below : {s : Schema} {x : Expr} {p : Tree} {k : ℕ} {r : Reference} → Refers s x p k r → k < name_count p
  refers_below (refers.entity h) = omega arith
  refers_below (refers.select h) = omega arith
  refers_below (refers.typed_as h reach r) = refers_below r
  refers_below (refers.defined t d m u r) = refers_below r
  refers_below (refers.element r) = among_below r

  among_below : {s : Schema} {x : Expr} {ts : Trees} {k : ℕ} {r : Reference} → RefersAmong s x ts k r → k < names_count ts
  among_below (refers.here r) = let h = refers_below r in omega arith
  among_below (refers.behind r) = let h = among_below r in omega arith

-- the names in a parameter are among those of its record
in_record : (ts : Trees) (k : ℕ) (p : Tree) → tree_get ts k ≡ Some p → name_count p ≤ names_count ts
in_record nil k p h = absurd (cc)
in_record (cons t ts) zero p h = let same : t ≡ p = cc in subst (λ q. name_count q ≤ name_count t + names_count ts) same (omega arith)
in_record (cons t ts) (suc k) p h = let more = in_record ts k p h in omega arith

-- and these among those of the instance
in_instance : (es : List Entry) (k : ℕ) (e : Entry) → slice_get es k ≡ Some e → names_count e.params ≤ record_references es
in_instance [] k e h = absurd (cc)
in_instance (x ∷ es) zero e h = let same : x ≡ e = cc in subst (λ (y : Entry). names_count y.params ≤ names_count x.params + record_references es) same (omega arith)
in_instance (x ∷ es) (suc k) e h = let more = in_instance es k e h in omega arith

none_somewhere : (s : Schema) (i : Instance) (r : Reference) → record_references i.records ≡ 0 → ¬ (HasSomewhere s i r)
none_somewhere s i r none h =
    let has = h.3 in
    let inside = refers_below has.refers in
    let parameter = in_record has.entry.params h.1 has.parameter has.given in
    let entry = in_instance i.records h.0 has.entry has.there in
    omega arith

pub no_references : (s : Schema) (i : Instance) (written : ℕ) → written ≡ capped (record_references i.records) → written ≡ 0 → AreReferencesOf s i []
no_references s i written counted zero_ =
    let none : record_references i.records ≡ 0 = omega arith in
    record {
      known_ = λ k d inside. absurd (omega arith);
      same = λ r. (λ h. absurd (let inside = h.1 in omega arith), λ h. absurd (none_somewhere s i r none h));
    }
