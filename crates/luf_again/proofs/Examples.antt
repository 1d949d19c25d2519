-- Small documents, read again and computed.
use Rattle.std.proofs.Common.{◌≡◌, ℕ, Bool, true, false, not, List, [], ◌∷◌, refl, codes, nat_eq}
use Rattle.luf_doc.specs.declared.doc.Chance.{Chance}
use Rattle.luf_doc.specs.declared.doc.Chance.TheVariants.{Tight, Space, Line, Hard}
use Rattle.luf_doc.specs.declared.doc.Remark.{Remark}
use Rattle.luf_doc.specs.declared.page.Page.{Page}
use Rattle.luf_doc.specs.Document.{Document, text, between, trail, nest, group, sequence, documents}
use Rattle.luf_doc.specs.Layout.{layout, pieces}
use Rattle.luf_again.specs.Reread.{reread_whole}
use Rattle.luf_again.specs.Tells.{notes_told, notes_of}
use Rattle.luf_again.specs.Shown.{shown}

abbrev page : Page
page = record { width = 30; tabs = true; unit = 4 }

-- of these notes: those whose third byte is no `[`
abbrev short : List ℕ → Bool
short (a ∷ b ∷ c ∷ bytes) = not (nat_eq c 91)
short bytes = true

abbrev noted : Chance → Bool → List Remark → Document
noted chance blank notes = between (record { chance = chance; notes = notes; blank = blank; deeper = false })

abbrev remark : List ℕ → Bool → Bool → Bool → Remark
remark bytes own_line ends_line blank = record { text = bytes; own_line = own_line; ends_line = ends_line; blank = blank }

abbrev seq : List Document → Document
seq ds = sequence (documents ds)

-- A note whose blank flag is set stands first, then a note that ends its line in a table, and one of its own line.
abbrev program : (first second third : Remark) (blank : Bool) → Document
program first second third blank = seq (noted Hard false (first ∷ []) ∷ text (codes "x") ∷ noted Space false [] ∷ text (codes "=") ∷ noted Space false []
    ∷ group (seq (text (codes "{") ∷ nest (seq (noted Line false (second ∷ []) ∷ text (codes "a") ∷ text (codes ",") ∷ noted Line false [] ∷ text (codes "b") ∷ trail ∷ []))
    ∷ noted Line false [] ∷ text (codes "}") ∷ []))
    ∷ noted Hard blank (third ∷ []) ∷ text (codes "y") ∷ noted Hard false [] ∷ [])

abbrev before : Document
before = program (remark (codes "--[[h]]") false false true) (remark (codes "--c") false true false) (remark (codes "--[[t]]") true false true) true

-- Nothing stands before the first note and a break behind it; empty lines are told where they were written.
abbrev after : Document
after = program (remark (codes "--[[h]]") true true false) (remark (codes "--c") false true false) (remark (codes "--[[t]]") true false true) false

read_again : reread_whole short page before ≡ after
read_again = refl

text_of_it : layout page before ≡ codes "--[[h]]\nx = { --c\n\ta,\n\tb,\n}\n\n--[[t]] y\n"
text_of_it = refl

same_text : layout page after ≡ layout page before
same_text = refl

comments_of_it : notes_told (shown short (pieces page before)).sights [] ≡ notes_of after []
comments_of_it = refl

-- Without something before the group the law does not hold: the first note then has its own line, which forces.
abbrev bare : Document
bare = seq (group (seq (noted Tight false (remark (codes "--[[c]]") false false false ∷ []) ∷ text (codes "a") ∷ noted Line false [] ∷ text (codes "b") ∷ [])) ∷ noted Hard false [] ∷ [])

first_text : layout page bare ≡ codes "--[[c]] a b\n"
first_text = refl

second_text : layout page (reread_whole short page bare) ≡ codes "--[[c]] a\nb\n"
second_text = refl
