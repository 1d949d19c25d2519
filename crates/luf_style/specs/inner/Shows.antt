-- What the sheet keeps of the pieces that have been written.
use Rattle.std.specs.Prelude.{◌≡◌, ℕ, min, List, [], ◌∷◌, ◌++◌}
use Rattle.luf_doc.specs.declared.page.Page.{Page}
use Rattle.luf_doc.specs.Layout.{Piece, bytes_of, column_of, is_begun}
use Rattle.luf_style.specs.declared.sheet.Sheet.{Sheet}

-- the bytes of pieces of which the last one stands first
abbrev pub written : Page → List Piece → List ℕ
written page [] = []
written page (p ∷ done) = written page done ++ bytes_of page p

pub record Shows (page : Page) (sheet : Sheet) (done : List Piece) : Type 0 where
  pub bytes : sheet.bytes.behind ≡ written page done
  pub column : sheet.column ≡ min (column_of page done) 4294967295
  pub begun : sheet.begun ≡ is_begun done
