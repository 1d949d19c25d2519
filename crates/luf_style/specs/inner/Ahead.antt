-- What is left of a document, once some of its nodes have been read.
use Rattle.std.specs.Prelude.{ℕ, zero, suc}
use Rattle.luf_doc.specs.Document.{Document, Documents, trail, nothing, also}
use Rattle.luf_doc.specs.Table.{inside}

-- some documents, and then others
abbrev pub join : Documents → Documents → Documents
join nothing others = others
join (also first rest) others = also first (join rest others)

-- the documents that are left once the first node of these has been read
abbrev pub next : Documents → Documents
next nothing = nothing
next (also first rest) = join (inside first) rest

-- once `n` nodes have been read
abbrev pub ahead : ℕ → Documents → Documents
ahead zero ds = ds
ahead (suc n) ds = ahead n (next ds)

abbrev pub first_of : Documents → Document
first_of nothing = trail
first_of (also first rest) = first

abbrev pub behind_first : Documents → Documents
behind_first nothing = nothing
behind_first (also first rest) = rest

-- the documents that are left of `d` at row `id`, and the one whose row that is
unfoldable pub left_at : Document → ℕ → Documents
left_at d id = ahead id (also d nothing)

unfoldable pub part : Document → ℕ → Document
part d id = first_of (left_at d id)
