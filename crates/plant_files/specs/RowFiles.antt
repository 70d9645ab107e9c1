-- Files of rows of any kind, one after another: what each holds, and the first one that is refused.
use Rattle.std.specs.Prelude.{◌≡◌, ◌⊎◌, ℕ, ◌+◌, List, [], ◌∷◌, ◌++◌, length, ⊤, Result, Ok, Err}
use Rattle.byte_io.specs.{FileTold}
use Rattle.trend_num.specs.{What}
use Rattle.trend_num.specs.declared.refusal.What.TheVariants.{FileBytes}
use Rattle.point_text.specs.{RowNo}
use Rattle.point_text.specs.declared.failure.RowNo.TheVariants as row_no
use Rattle.plant_status.specs.{FileId}
use Rattle.plant_status.specs.declared.status.Status.{Status}
use Rattle.plant_status.specs.declared.status.Status.TheVariants.{ReadFault, Limit, BadRow, WantOfMemory}
use Rattle.plant_files.specs.Reading.{IsReadWholeAs, IsTooLong}

-- the most bytes of a file of rows
abbrev pub most_file_bytes : ℕ
most_file_bytes = 67108864

-- what is known of the file of each name
abbrev pub ToldFiles : Type 0
ToldFiles = List ℕ → FileTold

-- ---- one file

-- what the bytes of a file read as: its rows, or why they are refused
abbrev pub ReadsAs : Type 0 → Type 0
ReadsAs R = List ℕ → Result (List R) RowNo

-- the rows of a file
abbrev pub IsRowFile : {R : Type 0} → ReadsAs R → FileTold → List R → Type 0
IsRowFile reads told rows = IsReadWholeAs told most_file_bytes (λ bytes. reads bytes ≡ Ok rows)

-- its rows are refused for this reason
abbrev pub IsRefusedFile : {R : Type 0} → ReadsAs R → FileTold → RowNo → Type 0
IsRefusedFile reads told why = IsReadWholeAs told most_file_bytes (λ bytes. reads bytes ≡ Err why)

-- the status of a file whose rows are refused for this reason; its rows are of this quantity
abbrev pub row_status : What → FileId → RowNo → Status
row_status kind file (row_no.BadRow row reason) = BadRow file row reason
row_status kind file (row_no.TooMany rows) = Limit kind rows
row_status kind file row_no.WantOfMemory = WantOfMemory

-- there is a row more than there may be; the status names the quantity, and one more than the limit
pub record AreTooMany {R : Type 0} (kind : What) (most : ℕ) (reads : ReadsAs R) (told : FileTold) (what : What)
    (number : ℕ) : Type 0 where
  pub quantity : what ≡ kind
  pub one_more : number ≡ most + 1
  pub refused : IsRefusedFile reads told (row_no.TooMany number)

-- the status says why the rows of a file are not read; they are of this quantity, and at most so many
abbrev pub IsRowRefusal : {R : Type 0} → What → ℕ → ReadsAs R → FileId → FileTold → Status → Type 0
IsRowRefusal kind most reads file told (ReadFault which) = which ≡ file
IsRowRefusal kind most reads file told (Limit what number) =
    IsTooLong FileBytes most_file_bytes told what number ⊎ AreTooMany kind most reads told what number
IsRowRefusal kind most reads file told (BadRow which row reason) =
    (which ≡ file) × IsRefusedFile reads told (row_no.BadRow row reason)
IsRowRefusal kind most reads file told WantOfMemory = ⊤
IsRowRefusal kind most reads file told other = ⊥

-- ---- the files of a list

-- what the rows of a file are
abbrev pub IsFileOf : Type 0 → Type 1
IsFileOf R = FileTold → List R → Type 0

-- the rows of files, in order; the predicate says what the rows of one file are
abbrev pub AreRowFiles : {R : Type 0} → IsFileOf R → ToldFiles → List (List ℕ) → List (List R) → Type 0
AreRowFiles IsFile told [] [] = ⊤
AreRowFiles IsFile told (file ∷ files) (rows ∷ lists) = IsFile (told file) rows × AreRowFiles IsFile told files lists
AreRowFiles IsFile told files lists = ⊥

-- the rows of the first files are read, and then one file is refused; its status depends on its place
pub record IsFirstRefused {R : Type 0} (IsFile : IsFileOf R) (IsRefusal : ℕ → FileTold → Status → Type 0) (told : ToldFiles)
    (files : List (List ℕ)) (why : Status) : Type 0 where
  pub front : List (List ℕ)
  pub file : List ℕ
  pub rest : List (List ℕ)
  pub cut : files ≡ front ++ file ∷ rest
  pub lists : List (List R)
  pub good : AreRowFiles IsFile told front lists
  pub refused : IsRefusal (length front) (told file) why
