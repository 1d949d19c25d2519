-- Files in memory. Our own rule.
use Rattle.std.specs.Prelude.{ℕ, List, refl, map, string_bytes, String, Vec}
use Rattle.std.specs.Coded.{Coded, code_by, coded×, coded_list, coded_ℕ}
use Rattle.std.specs.FinMap.{code, from_entries}
use Rattle.luf_io.specs.Files.{FileMap}

-- What files in memory are: the files, the numbers of the calls that fail, how many calls there were, and how many of
-- each kind failed.
pub record FilesState : Type 0 where
  pub files : FileMap
  pub fails : List ℕ
  pub calls : ℕ
  pub fetches : ℕ
  pub replaces : ℕ

abbrev pub files_state_code : Coded FilesState
files_state_code = code_by (FileMap × (List ℕ × (ℕ × (ℕ × ℕ))))
    (coded× (code (coded_list coded_ℕ) (coded_list coded_ℕ)) (coded× (coded_list coded_ℕ) (coded× coded_ℕ (coded× coded_ℕ coded_ℕ))))
    (λ s. (s.files, (s.fails, (s.calls, (s.fetches, s.replaces)))))
    (λ p. record { files = p.0; fails = p.1.0; calls = p.1.1.0; fetches = p.1.1.1.0; replaces = p.1.1.1.1 })
    (λ _. refl)

-- files by the bytes of their names
abbrev pub files_in : {Y Z : Type 0} → List (String Y × Vec ℕ Z) → FileMap
files_in entries = from_entries (map (λ e. (string_bytes e.0, e.1.items)) entries)
