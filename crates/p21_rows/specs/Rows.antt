-- The rows of a model.
use Rattle.std.specs.Prelude.{◌≡◌, ◌+◌, ◌-◌, ℕ, Bool, true, List, [], ◌∷◌, ◌++◌, Option, None, Some, Ok, ⊤, length, map, replicate}
use Rattle.std.specs.List.{AllByRecursion, AllZip, flat_map}
use Rattle.p21_tree.specs.Tree.{Tree, Trees, nil, cons, absent, derived, int, real, str, enumeration, binary, reference, items, typed}
use Rattle.p21_tree.specs.Grammar.{Entry}
use Rattle.p21_tree.specs.Sentence.{Instance}
use Rattle.p21_express.specs.Schema.{Schema}
use Rattle.p21_express.specs.WellFormed.{Origin}
use Rattle.p21_schema.specs.declared.ids.EntityId.{EntityId}
use Rattle.p21_schema.specs.Place.{entity_name, IsEntityOf}
use Rattle.p21_schema.specs.Row.{IsRow}
use Rattle.p21_check.specs.Attributes.{AreAttributes}
use Rattle.p21_reader.specs.Reading.{IsReading}
use Rattle.p21_run.specs.declared.input.InputError.{InputError}
use Rattle.p21_run.specs.declared.input.InputError.TheVariants.{Device}
use Rattle.p21_json.specs.Spelled.{IsSpelled}
use Rattle.p21_json.specs.Where.{attribute}
use Rattle.p21_rows.specs.declared.cell.Cell.{Cell}
use Rattle.p21_rows.specs.declared.cell.Cell.TheVariants.{Null}
use Rattle.p21_rows.specs.declared.rows.Table.{Table}
use Rattle.p21_rows.specs.declared.rows.Table.TheVariants.{Metadata, Instances, References, Entity}
use Rattle.p21_rows.specs.Cells.{IsCell, IsText, number_cell}

-- a row of a table: its cells in the order of the columns
pub record Row : Type 0 where
  pub table : Table
  pub cells : List Cell

-- a call of what takes rows: it begins, takes a row, or ends
pub data Step : Type 0 where
  begun : Step
  row : Row → Step
  ended : Step

-- known calls go on by these
abbrev pub Goes : Option (List Step) → Option (List Step) → List Step → Type 0
Goes None new steps = ⊤
Goes (Some xs) None steps = ⊥
Goes (Some xs) (Some ys) steps = ys ≡ xs ++ steps

-- these rows are taken
abbrev pub Takes : Option (List Step) → Option (List Step) → List Row → Type 0
Takes old new rows = Goes old new (map row rows)

-- some rows are taken that are such
abbrev pub TakesSome : Option (List Step) → Option (List Step) → (List Row → Type 0) → Type 0
TakesSome old new Such = (rows : List Row) × Such rows × Takes old new rows

-- rows of each element, one after the other
abbrev pub RowsOfEach : {X : Type 0} → (X → List Row → Type 0) → List X → List Row → Type 0
RowsOfEach R [] rows = rows ≡ []
RowsOfEach R (x ∷ xs) rows = (first : List Row) × (rest : List Row) × R x first × RowsOfEach R xs rest × (rows ≡ first ++ rest)

-- a row, and then others
abbrev pub Leads : (Row → Type 0) → (List Row → Type 0) → List Row → Type 0
Leads First Rest rows = (first : Row) × (rest : List Row) × First first × Rest rest × (rows ≡ first ∷ rest)

-- texts with `+` between them
abbrev pub joined : List (List ℕ) → List ℕ
joined [] = []
joined (t ∷ ts) = t ++ flat_map (λ u. 43 ∷ u) ts

-- the names of the entities of records, with `+` between them
abbrev pub AreNames : List Entry → List ℕ → Type 0
AreNames es text = (names : List (List ℕ)) × AllZip (λ e n. IsSpelled n e.keyword) es names × (text ≡ joined names)

-- The row of an instance: its name, the names of the entities of its records, and its place.
pub record IsInstanceRow (i : Instance) (r : Row) : Type 0 where
  pub table : r.table ≡ Instances
  pub names : Cell
  pub are_names : IsText (AreNames i.records) names
  pub cells : r.cells ≡ number_cell i.name ∷ names ∷ number_cell i.at ∷ []

-- the cell of the first of some parameters, which is for this attribute; null where there is none
abbrev pub IsCellOfFirst : Schema → Instance → Origin → Trees → Cell → Type 0
IsCellOfFirst s i o nil c = c ≡ Null
IsCellOfFirst s i o (cons t ts) c = IsCell s (attribute i o) t c

-- those after the first
abbrev pub behind_first : Trees → Trees
behind_first nil = nil
behind_first (cons t ts) = ts

-- the cells of parameters by their attributes, in order
abbrev pub AreCells : Schema → Instance → List Origin → Trees → List Cell → Type 0
AreCells s i [] ts cs = cs ≡ []
AreCells s i (o ∷ os) ts [] = ⊥
AreCells s i (o ∷ os) ts (c ∷ cs) = IsCellOfFirst s i o ts c × AreCells s i os (behind_first ts) cs

-- The cells of a record: the name of its instance, and for each attribute of its entity's row a cell: those of the attributes that the record gives stand last, and the others are null.
pub record AreRecordCells (s : Schema) (i : Instance) (e : Entry) (cells : List Cell) : Type 0 where
  pub row : List Origin
  pub is_row : IsRow s e.keyword row
  pub given : List Origin
  pub are_given : AreAttributes s i.complex e.keyword given
  pub values : List Cell
  pub are_values : AreCells s i given e.params values
  pub parts : cells ≡ number_cell i.name ∷ (replicate (length row - length given) Null ++ values)

-- The row of a record, in the table of its entity.
-- The name of the instance, and for each attribute of the entity's row a cell: those of the attributes that the
-- record gives come last, and the others are null.
pub record IsRecordRow (s : Schema) (i : Instance) (e : Entry) (r : Row) : Type 0 where
  pub entity : EntityId
  pub known : IsEntityOf s entity
  pub named : entity_name s entity ≡ e.keyword
  pub table : r.table ≡ Entity entity
  pub cells : AreRecordCells s i e r.cells

abbrev mutual
  -- the instance names that are written in a value, in order
  pub targets : Tree → List ℕ
  targets absent = []
  targets derived = []
  targets (int v) = []
  targets (real v) = []
  targets (str v) = []
  targets (enumeration v) = []
  targets (binary v) = []
  targets (reference n) = n ∷ []
  targets (items ts) = all_targets ts
  targets (typed k t) = targets t

  -- those of values, in order
  pub all_targets : Trees → List ℕ
  all_targets nil = []
  all_targets (cons t ts) = targets t ++ all_targets ts

-- The row of a reference: the name of its instance, the column, its number in that column, and the name that it refers to.
pub record IsReferenceRow (source : ℕ) (column : List ℕ) (number target : ℕ) (r : Row) : Type 0 where
  pub table : r.table ≡ References
  pub column_cell : Cell
  pub is_column : IsText (λ text. text ≡ column) column_cell
  pub cells : r.cells ≡ number_cell source ∷ column_cell ∷ number_cell number ∷ number_cell target ∷ []

-- the rows of the references to some instances in a column, which are numbered from here on
abbrev pub AreReferenceRows : ℕ → List ℕ → ℕ → List ℕ → List Row → Type 0
AreReferenceRows source column n [] rows = rows ≡ []
AreReferenceRows source column n (t ∷ ts) [] = ⊥
AreReferenceRows source column n (t ∷ ts) (r ∷ rows) = IsReferenceRow source column n t r × AreReferenceRows source column (n + 1) ts rows

-- the rows of the references in a value, which are of one column
-- The name of the instance, the column, the number of the reference in that column, and the name that it refers to.
abbrev pub AreReferencesOf : ℕ → Tree → List Row → Type 0
AreReferencesOf source t rows = (column : List ℕ) × AreReferenceRows source column 0 (targets t) rows

abbrev pub list_of : Trees → List Tree
list_of nil = []
list_of (cons t ts) = t ∷ list_of ts

-- The rows of a record: its row, and those of the references in each parameter, in order.
abbrev pub AreRecordRows : Schema → Instance → Entry → List Row → Type 0
AreRecordRows s i e rows = Leads (IsRecordRow s i e) (RowsOfEach (AreReferencesOf i.name) (list_of e.params)) rows

-- The rows of an instance: its row, and those of each record, in order.
-- Its row has its name, the names of its entities with `+` between them, and its place.
abbrev pub AreInstanceRows : Schema → Instance → List Row → Type 0
AreInstanceRows s i rows = Leads (IsInstanceRow i) (RowsOfEach (AreRecordRows s i) i.records) rows

-- rows of what is known of a model as a whole
abbrev pub AreMetadata : List Row → Type 0
AreMetadata rows = AllByRecursion (λ r. r.table ≡ Metadata) rows

-- The rows of a model: those of what is known of it as a whole, and those of each instance, in order.
abbrev pub AreModelRows : Schema → List Instance → List Row → Type 0
AreModelRows s is rows = (first : List Row) × (others : List Row) × AreMetadata first × RowsOfEach (AreInstanceRows s) is others × (rows ≡ first ++ others)

-- the rows of a model are taken, from the beginning to the end
abbrev pub GivesModel : Schema → List Instance → Option (List Step) → Option (List Step) → Type 0
GivesModel s is old new = (rows : List Row) × AreModelRows s is rows × Goes old new (begun ∷ (map row rows ++ ended ∷ []))

-- those of the model of the file against this schema
abbrev pub GivesRows : {D : Type 0} → (taken : D → Option (List Step)) → Schema → List ℕ → D → D → Type 0
GivesRows taken s file old new = (is : List Instance) × IsReading s file (Ok is) × GivesModel s is (taken old) (taken new)

-- not all rows were taken: for Device, since what takes them answered it
abbrev pub IsLeft : {D : Type 0} → (marked : D → Bool) → Schema → List ℕ → D → D → InputError → Type 0
IsLeft marked s file old new cause = cause ≡ Device → marked new ≡ true
