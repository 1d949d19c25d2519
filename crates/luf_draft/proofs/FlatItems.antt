-- Arguments, statements and blocks: marks that hold others are forms written flat, where those are.
use Rattle.std.proofs.Common.{◌≡◌, ℕ, Bool, true, false, ◌&&◌, if◌then◌else◌, cond, Option, Some, None, List, [], ◌∷◌, ◌++◌, codes, refl, subst}
use Rattle.std.proofs.lemmas.Bool.{false≢true, true≢false}
use Rattle.luf_lex.specs.declared.token.Tok.{Tok}
use Rattle.luf_tree.specs.Syntax as syntax
use Rattle.luf_tree.specs.TokenSyntax as tokens
use Rattle.luf_bare.specs.Bare.{words_of, as_here, before, chosen_expression, chosen_expressions, chosen_statement, chosen_statements}
use Rattle.luf_draft.specs.Draft.{Draft, word, drafts, space, tight, tight_end, before_statement, source_ends}
use Rattle.luf_draft.specs.Flat.{Flat, AreAlike}
use Rattle.luf_draft.specs.Form.{Items, no_items, lone_string, lone_table, with_block, plain_items, items_of, kind_of_one, kind_of_last, last_kind, Words, lone, arguments_as, statement, statements, body, main}
use Rattle.luf_draft.specs.inner.Marks.{lone_marks, argument_marks, guard_marks, guarded_marks, opens_first, is_empty, are_empty, body_marks, source_marks}
use Rattle.luf_draft.specs.declared.mark.Mark.{Mark}
use Rattle.luf_draft.specs.declared.mark.Mark.TheVariants.{Gap}
use Rattle.luf_draft.specs.declared.mark.GapKind.TheVariants as kind
use Rattle.luf_draft.proofs.FlatShows.{onto, all_onto, Shows, none, one, joins, Stands, Leads}
use Rattle.luf_draft.proofs.FlatStarts.{opens_alike}
use Rattle.luf_draft.proofs.FlatLists.{says}

-- ---- what stays as it is where the tokens are written

same_last_kind : (written : List (List ℕ)) (e : tokens.Expression) → last_kind e ≡ last_kind (chosen_expression (words_of (says written)) as_here e)
same_last_kind written (syntax.function span inner) = refl
same_last_kind written _ = refl

same_kind_of_one : (written : List (List ℕ)) (e : tokens.Expression) → kind_of_one e ≡ kind_of_one (chosen_expression (words_of (says written)) as_here e)
same_kind_of_one written (syntax.function span inner) = refl
same_kind_of_one written _ = refl

same_kind_of_last : (written : List (List ℕ)) (rest : tokens.Expressions) (last : tokens.Expression)
    → kind_of_last last rest ≡ kind_of_last (chosen_expression (words_of (says written)) as_here last) (chosen_expressions (words_of (says written)) as_here rest)
same_kind_of_last written syntax.no_expressions last = same_last_kind written last
same_kind_of_last written (syntax.more_expressions e rest) last = same_kind_of_last written rest e

pub same_items : (written : List (List ℕ)) (es : tokens.Expressions) → items_of es ≡ items_of (chosen_expressions (words_of (says written)) as_here es)
same_items written syntax.no_expressions = refl
same_items written (syntax.more_expressions e syntax.no_expressions) = same_kind_of_one written e
same_items written (syntax.more_expressions e (syntax.more_expressions f rest)) = same_kind_of_last written rest f

abbrev pub are_none : syntax.Statements Words → Bool
are_none syntax.no_statements = true
are_none (syntax.more_statements s rest) = false

are_empty_before : (written : List (List ℕ)) (s : tokens.Statement) (empty : Bool) (cs : syntax.Statements Words) → empty ≡ are_none cs
    → (is_empty s && empty) ≡ are_none (before (chosen_statement (words_of (says written)) as_here s) cs)
are_empty_before written (syntax.empty_statement span) empty cs is = is
are_empty_before written _ empty cs is = refl

pub same_empty : (written : List (List ℕ)) (ss : tokens.Statements) → are_empty ss ≡ are_none (chosen_statements (words_of (says written)) as_here ss)
same_empty written syntax.no_statements = refl
same_empty written (syntax.more_statements s rest) = are_empty_before written s (are_empty rest) (chosen_statements (words_of (says written)) as_here rest) (same_empty written rest)

-- ---- a unary operation

pub shows_behind : {written : List (List ℕ)} {ms : List Mark} {t u : List Flat} (a b : Bool) → a ≡ b → Shows written ms t u
    → Shows written (Gap (if b then kind.Space else kind.Tight) ∷ ms) t (onto (cond a space tight) u)
shows_behind true true is rest = one rest
shows_behind false false is rest = one rest
shows_behind true false is rest = absurd (true≢false is)
shows_behind false true is rest = absurd (false≢true is)

-- ---- arguments

module _ (toks : List Tok) (string_has table_has : Bool → Bool) (written : List (List ℕ)) where
  shows_lone : (paren : Bool) (ms : List Mark) (form : List Draft → List Draft) → Leads written ms form → Leads written (lone_marks paren ms) (lone string_has table_has paren form)
  shows_lone true ms form shows more t = one (one (joins (shows _ _) (one none)))
  shows_lone false ms form shows more t = one (shows more t)

  shows_arguments_as : (k : Items) (had : Bool) (spaced broken : List Mark) (listed lines : List Draft → List Draft) → Leads written spaced listed → Leads written broken lines
      → Leads written (argument_marks toks string_has table_has k had spaced broken) (arguments_as string_has table_has k had listed lines)
  shows_arguments_as no_items had spaced broken listed lines shows_spaced shows_broken more t = one (one (one (one none)))
  shows_arguments_as lone_string had spaced broken listed lines shows_spaced shows_broken more t = shows_lone (string_has had) spaced listed shows_spaced more t
  shows_arguments_as lone_table had spaced broken listed lines shows_spaced shows_broken more t = shows_lone (table_has had) spaced listed shows_spaced more t
  shows_arguments_as with_block had spaced broken listed lines shows_spaced shows_broken more t = one (one (one (joins (shows_spaced (tight_end ∷ word (codes ")") ∷ more) t) (one (one none)))))
  shows_arguments_as plain_items had spaced broken listed lines shows_spaced shows_broken more t =
      one (one (one (one (one (one (one (joins (shows_broken [] _) (one (one (one (one (one (one none)))))))))))))

  -- where they are of one kind
  pub shows_items : (k like : Items) → k ≡ like → (had : Bool) (spaced broken : List Mark) (listed lines : List Draft → List Draft) → Leads written spaced listed → Leads written broken lines
      → Leads written (argument_marks toks string_has table_has k had spaced broken) (arguments_as string_has table_has like had listed lines)
  shows_items k like is had spaced broken listed lines shows_spaced shows_broken =
      subst (λ kind_as. Leads written (argument_marks toks string_has table_has k had spaced broken) (arguments_as string_has table_has kind_as had listed lines)) is
      (shows_arguments_as k had spaced broken listed lines shows_spaced shows_broken)

  -- ---- statements

  shows_guard : (opening opens : Bool) → opening ≡ opens → (ms : List Mark) (d : Draft) → Stands written ms d → (more : List Draft) (t : List Flat)
      → Shows written (guard_marks true opening ++ ms) (all_onto (drafts more) t) (onto (before_statement false) (all_onto (drafts (cond opens (word (codes ";") ∷ d ∷ more) (d ∷ more))) t))
  shows_guard true true is ms d shows more t = one (one (shows _))
  shows_guard false false is ms d shows more t = one (shows _)
  shows_guard true false is ms d shows more t = absurd (true≢false is)
  shows_guard false true is ms d shows more t = absurd (false≢true is)

  -- the marks of a statement, of which an empty one has none
  abbrev pub ShowsIf : Bool → List Mark → Option (syntax.Statement Words) → Type 0
  ShowsIf true ms None = Unit {0}
  ShowsIf true ms (Some s) = ⊥
  ShowsIf false ms None = ⊥
  ShowsIf false ms (Some s) = Stands written ms (statement string_has table_has s)

  -- the statements of a block, with the gap before the first
  abbrev pub starting : syntax.Statements Words → List Draft → List Draft
  starting syntax.no_statements more = more
  starting (syntax.more_statements s rest) more = before_statement true ∷ statement string_has table_has s ∷ statements string_has table_has rest more

  pub shows_later : AreAlike toks written → (empty : Bool) (ms : List Mark) (s : Option (syntax.Statement Words)) → ShowsIf empty ms s
      → (rest : List Mark) (cs : syntax.Statements Words) → Leads written rest (statements string_has table_has cs)
      → Leads written (if empty then rest else guarded_marks toks true ms ++ rest) (statements string_has table_has (before s cs))
  shows_later alike true ms None shows rest cs shows_rest more t = shows_rest more t
  shows_later alike true ms (Some s) shows rest cs shows_rest more t = absurd shows
  shows_later alike false ms None shows rest cs shows_rest more t = absurd shows
  shows_later alike false ms (Some s) shows rest cs shows_rest more t =
      joins (shows_guard (opens_first toks ms) _ (opens_alike toks written alike ms (statement string_has table_has s) shows) ms (statement string_has table_has s) shows (statements string_has table_has cs more) t) (shows_rest more t)

  pub shows_first : (empty : Bool) (ms : List Mark) (s : Option (syntax.Statement Words)) → ShowsIf empty ms s
      → (others rest : List Mark) (cs : syntax.Statements Words) → Leads written others (starting cs) → Leads written rest (statements string_has table_has cs)
      → Leads written (if empty then others else guarded_marks toks false ms ++ rest) (starting (before s cs))
  shows_first true ms None shows others rest cs shows_others shows_rest more t = shows_others more t
  shows_first true ms (Some s) shows others rest cs shows_others shows_rest more t = absurd shows
  shows_first false ms None shows others rest cs shows_others shows_rest more t = absurd shows
  shows_first false ms (Some s) shows others rest cs shows_others shows_rest more t = one (joins (shows _) (shows_rest more t))

  -- ---- blocks

  pub shows_inner : (empty : Bool) (cs : syntax.Statements Words) → empty ≡ are_none cs → (ms : List Mark) → Leads written ms (starting cs)
      → Leads written (body_marks empty ms) (body string_has table_has (syntax.block tt cs))
  shows_inner true syntax.no_statements is ms shows more t = one none
  shows_inner false (syntax.more_statements s rest) is ms shows more t = one (one (joins (shows [] _) (one (one (one none)))))
  shows_inner false syntax.no_statements is ms shows more t = absurd (false≢true is)
  shows_inner true (syntax.more_statements s rest) is ms shows more t = absurd (true≢false is)

  pub shows_source : (empty : Bool) (cs : syntax.Statements Words) → empty ≡ are_none cs → (ms : List Mark) → Leads written ms (starting cs)
      → Stands written (source_marks empty ms) (main string_has table_has (syntax.block tt cs))
  shows_source true syntax.no_statements is ms shows t = one none
  shows_source false (syntax.more_statements s rest) is ms shows t = one (joins (shows (source_ends ∷ []) _) (one (one none)))
  shows_source false syntax.no_statements is ms shows t = absurd (false≢true is)
  shows_source true (syntax.more_statements s rest) is ms shows t = absurd (true≢false is)
