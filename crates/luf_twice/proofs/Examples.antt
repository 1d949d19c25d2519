-- A small document whose gaps are chosen, and the gaps that its sights tell.
use Rattle.std.proofs.Common.{◌≡◌, inl, inr, Bool, true, false, List, [], ◌∷◌, refl, codes}
use Rattle.luf_doc.specs.declared.doc.Chance.{Chance}
use Rattle.luf_doc.specs.declared.doc.Chance.TheVariants.{Tight, Hard}
use Rattle.luf_doc.specs.declared.doc.Remark.{Remark}
use Rattle.luf_doc.specs.Document.{Document, text, between, trail, sequence, documents}
use Rattle.luf_again.specs.Tells.{Told, token, comment, untold}
use Rattle.luf_twice.specs.Again.{gaps_of}
use Rattle.luf_twice.specs.Chooses.{Chooses}
use Rattle.luf_twice.proofs.Gathered.{opened}

abbrev remark : Remark
remark = record { text = codes "--c"; own_line = true; ends_line = true; blank = false }

abbrev gap : Chance → List Remark → Bool → Document
gap chance notes blank = between (record { chance = chance; notes = notes; blank = blank; deeper = false })

-- `--c`, `;(x,)` and `y` behind an empty line, where `;` and `,` are dropped: tokens 0 and 3
abbrev small : Document
small = sequence (documents (gap Hard (remark ∷ []) false ∷ text (codes ";") ∷ text (codes "(") ∷ gap Tight [] false ∷ text (codes "x") ∷ trail ∷ gap Tight [] false ∷ text (codes ")")
    ∷ gap Hard [] true ∷ text (codes "y") ∷ gap Hard [] false ∷ []))

abbrev told : Told
told = record {
  sights = token (codes "y") true ∷ token (codes ")") false ∷ token (codes ",") false ∷ token (codes "x") false ∷ token (codes "(") false ∷ token (codes ";") false ∷ comment remark ∷ [];
  blank = false;
}

chosen : Chooses (0 ∷ 3 ∷ []) small untold told false true
chosen = (
  _,
  _,
  (refl, refl, refl),
  (
    _,
    _,
    (refl, inl (refl, refl)),
    (
      _,
      _,
      (refl, inr (refl, refl, refl)),
      (
        _,
        _,
        (refl, refl, refl),
        (
          _,
          _,
          (refl, inr (refl, refl, refl)),
          (
            _,
            _,
            (refl, inr (refl, refl)),
            (
              _,
              _,
              (refl, refl, refl),
              (
                _,
                _,
                (refl, inr (refl, refl, refl)),
                (_, _, (refl, refl, refl), (_, _, (refl, inr (refl, refl, refl)), (_, _, (refl, refl, refl), (refl, refl)))),
              ),
            ),
          ),
        ),
      ),
    ),
  ),
)

found : opened (0 ∷ 3 ∷ []) true told
    ≡ record { notes = []; blank = false } ∷ record { notes = []; blank = true } ∷ record { notes = []; blank = false } ∷ record { notes = []; blank = false } ∷ record { notes = remark ∷ []; blank = false } ∷ []
found = refl

gaps : gaps_of small []
    ≡ record { notes = remark ∷ []; blank = false } ∷ record { notes = []; blank = false } ∷ record { notes = []; blank = false } ∷ record { notes = []; blank = true } ∷ record { notes = []; blank = false } ∷ []
gaps = refl
