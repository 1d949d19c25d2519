-- The document of each construct, by the documents of its parts; and nothing of a `Doc` is lost in its document.
use Rattle.std.proofs.Common.{◌≡◌, ℕ, ◌∙◌, List, [], ◌∷◌, map, ap, sym, refl, subst}
use Rattle.luf_doc.specs.declared.doc.Gap.{Gap}
use Rattle.luf_doc.specs.declared.doc.Doc.{Doc, roll-Doc}
use Rattle.luf_doc.specs.declared.doc.Doc.TheVariants as doc
use Rattle.luf_doc.specs.declared.doc.Doc.TheOpen.{Doc-F}
use Rattle.luf_doc.specs.declared.doc.Doc.TheFolds.{map-Doc, fold-roll-Doc, ind-Doc}
use Rattle.luf_doc.specs.Document.{Document, Documents, text, between, trail, nest, group, sequence, nothing, also, documents, layer, document_of}

pub text_document : (bytes : List ℕ) → document_of (doc.Text bytes) ≡ text bytes
text_document bytes = ap document_of (sym (doc.rolls-Text bytes)) ∙ fold-roll-Doc Document layer (Doc-F.Text bytes)

pub gap_document : (gap : Gap) → document_of (doc.Gap gap) ≡ between gap
gap_document gap = ap document_of (sym (doc.rolls-Gap gap)) ∙ fold-roll-Doc Document layer (Doc-F.Gap gap)

pub trail_document : document_of doc.Trail ≡ trail
trail_document = ap document_of (sym doc.rolls-Trail) ∙ fold-roll-Doc Document layer Doc-F.Trail

pub nest_document : (inner : Doc) → document_of (doc.Nest inner) ≡ nest (document_of inner)
nest_document inner = ap document_of (sym (doc.rolls-Nest inner)) ∙ fold-roll-Doc Document layer (Doc-F.Nest inner)

pub group_document : (inner : Doc) → document_of (doc.Group inner) ≡ group (document_of inner)
group_document inner = ap document_of (sym (doc.rolls-Group inner)) ∙ fold-roll-Doc Document layer (Doc-F.Group inner)

pub sequence_document : (items : List Doc) → document_of (doc.Seq items) ≡ sequence (documents (map document_of items))
sequence_document items = ap document_of (sym (doc.rolls-Seq items)) ∙ fold-roll-Doc Document layer (Doc-F.Seq items)

-- ---- the way back

abbrev mutual
  pub doc_of : Document → Doc
  doc_of (text bytes) = doc.Text bytes
  doc_of (between gap) = doc.Gap gap
  doc_of trail = doc.Trail
  doc_of (nest inner) = doc.Nest (doc_of inner)
  doc_of (group inner) = doc.Group (doc_of inner)
  doc_of (sequence items) = doc.Seq (docs_of items)

  pub docs_of : Documents → List Doc
  docs_of nothing = []
  docs_of (also first rest) = doc_of first ∷ docs_of rest

abbrev Kept : Doc → Type 0
Kept d = doc_of (document_of d) ≡ d

docs_kept : (ds : List ((d : Doc) × Kept d)) → docs_of (documents (map document_of (map (λ p. p.0) ds))) ≡ map (λ p. p.0) ds
docs_kept [] = refl
docs_kept (d ∷ ds) = λ i. d.1 i ∷ docs_kept ds i

layer_kept : (y : Doc-F ((d : Doc) × Kept d)) → Kept (roll-Doc (map-Doc ((d : Doc) × Kept d) Doc (λ p. p.0) y))
layer_kept (Doc-F.Text bytes) = subst Kept (sym (doc.rolls-Text bytes)) (ap doc_of (text_document bytes))
layer_kept (Doc-F.Gap gap) = subst Kept (sym (doc.rolls-Gap gap)) (ap doc_of (gap_document gap))
layer_kept Doc-F.Trail = subst Kept (sym doc.rolls-Trail) (ap doc_of trail_document)
layer_kept (Doc-F.Nest inner) = subst Kept (sym (doc.rolls-Nest inner.0)) (ap doc_of (nest_document inner.0) ∙ ap doc.Nest inner.1)
layer_kept (Doc-F.Group inner) = subst Kept (sym (doc.rolls-Group inner.0)) (ap doc_of (group_document inner.0) ∙ ap doc.Group inner.1)
layer_kept (Doc-F.Seq items) = subst Kept (sym (doc.rolls-Seq (map (λ p. p.0) items))) (ap doc_of (sequence_document (map (λ p. p.0) items)) ∙ ap doc.Seq (docs_kept items))

pub document_keeps : (d : Doc) → doc_of (document_of d) ≡ d
document_keeps = ind-Doc Kept (λ x y is. subst (λ z. Kept (roll-Doc z)) is (layer_kept y))
