-- What is kept of an instance that a walk passed.
use Rattle.std.proofs.Common.{◌≡◌, ℕ, ◌+◌, ◌<◌, ◌^◌, List, refl, sym, ap, subst, ◌∙◌, arith}
use Rattle.p21_express.specs.Schema.{Schema}
use Rattle.p21_tree.specs.Grammar.{Entry}
use Rattle.p21_tree.specs.Views.{plain_instance}
use Rattle.p21_tree.specs.declared.instances.RawInstance.{RawInstance}
use Rattle.p21_tree.specs.declared.pieces.Piece.{Piece}
use Rattle.p21_check.specs.References.{names_count}
use Rattle.p21_check.specs.Referred.{AreReferencesOf}
use Rattle.p21_check.specs.WalkPiece.{IsWalked}
use Rattle.p21_check.specs.declared.piece_walk.Walked.{Walked}
use Rattle.p21_check.specs.declared.referred.Reference.{Reference}
use Rattle.p21_counts.specs.Counts.{capped, record_references}
use Rattle.p21_outline.specs.Columns.{Adds, AppendsSimple}
use Rattle.p21_outline.specs.declared.columns.Columns.{Columns}
use Rattle.p21_outline.proofs.ColumnLemmas.{adds_simple}

-- a sum that fits is written as it is
fits_cap : (w n : ℕ) → w < 2 ^ 64 → w ≡ n → w ≡ capped (n + 0)
fits_cap w n h e = omega (arith, h, e)

counted : (s : Schema) (p : Piece) (i : RawInstance) (w : Walked) → IsWalked s p i w → w.written < 2 ^ 64 → w.written ≡ capped (record_references (plain_instance i).records)
counted s p i w h fits = fits_cap w.written (names_count h.entry.params) fits h.written ∙ ap (λ (rs : List Entry). capped (record_references rs)) (sym h.records_are)

pub walked_adds : (s : Schema) (p : Piece) (i : RawInstance) (w : Walked) (old new : Columns) (rs : List Reference) → IsWalked s p i w → w.written < 2 ^ 64 → rs ≡ w.references.items → AppendsSimple old w.written w.entity rs i new → Adds s old i new
walked_adds s p i w old new rs h fits are a = adds_simple s old new i i w.entity rs w.written refl h.sound h.own (subst (AreReferencesOf s (plain_instance i)) (sym are) h.refers) (counted s p i w h fits) a
