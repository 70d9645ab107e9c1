-- The files of a list, one after another.
use Rattle.std.proofs.Common.{◌≡◌, ℕ, ◌+◌, ◌<◌, List, [], ◌∷◌, ◌++◌, length, take, drop, get_or, sym, subst, arith}
use Rattle.std.proofs.lemmas.List.{drop_more, take_more, length-take-le, take-append-drop}
use Rattle.byte_io.specs.{FileTold}
use Rattle.plant_status.specs.declared.status.Status.{Status}
use Rattle.plant_files.specs.{ToldFiles, IsFileOf, AreRowFiles, IsFirstRefused}

module _ {R : Type 0} (IsFile : IsFileOf R) (told : ToldFiles) where
  -- one file more
  AreRowFiles-push : (files : List (List ℕ)) (lists : List (List R)) (file : List ℕ) (rows : List R)
      → AreRowFiles IsFile told files lists → IsFile (told file) rows
      → AreRowFiles IsFile told (files ++ file ∷ []) (lists ++ rows ∷ [])
  AreRowFiles-push [] [] file rows all one = (one, tt)
  AreRowFiles-push [] (l ∷ lists) file rows all one = absurd all
  AreRowFiles-push (f ∷ files) [] file rows all one = absurd all
  AreRowFiles-push (f ∷ files) (l ∷ lists) file rows all one = (all.0, AreRowFiles-push files lists file rows all.1 one)

  -- the files up to one, and that one
  pub AreRowFiles-more : (files : List (List ℕ)) (i : ℕ) (file : List ℕ) (lists : List (List R)) (rows : List R)
      → i < length files → file ≡ get_or files i file → AreRowFiles IsFile told (take i files) lists → IsFile (told file) rows
      → AreRowFiles IsFile told (take (i + 1) files) (lists ++ rows ∷ [])
  AreRowFiles-more files i file lists rows there is all one = grind (arith, take_more, AreRowFiles-push)

  -- the file after those that are read is refused
  pub first_refused : (IsRefusal : ℕ → FileTold → Status → Type 0) (files : List (List ℕ)) (i : ℕ) (file : List ℕ)
      (lists : List (List R)) (why : Status) → i < length files → file ≡ get_or files i file
      → AreRowFiles IsFile told (take i files) lists → IsRefusal i (told file) why
      → IsFirstRefused IsFile IsRefusal told files why
  first_refused IsRefusal files i file lists why there is all refused = record {
    front = take i files;
    file = file;
    rest = drop (i + 1) files;
    cut = grind (arith, take-append-drop, drop_more);
    lists = lists;
    good = all;
    refused = subst (λ n. IsRefusal n (told file) why) (sym (length-take-le i files (omega arith))) refused;
  }
