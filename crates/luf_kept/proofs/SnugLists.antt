-- Names, parameters, declarations, paths, arguments and what has a guard: their words and gaps follow each other.
use Rattle.std.proofs.Common.{◌≡◌, ℕ, Bool, true, false, cond, Option, Some, None, List, [], ◌∷◌, codes, refl}
use Rattle.luf_tree.specs.Syntax as syntax
use Rattle.luf_draft.specs.Draft.{Draft, Drafts, also, drafts, word, space, tight}
use Rattle.luf_draft.specs.Form.{Items, no_items, lone_string, lone_table, with_block, plain_items, Words, first_word, opens, guarded, more_words, words, more_parameters, parameters, attribute, more_declared, declared, path_fields, path, method, lone, arguments_as}
use Rattle.luf_kept.specs.inner.Steps.{free}
use Rattle.luf_kept.proofs.SnugRuns.{Goal, at_word, Runs, Follows, Whole, Leads, Starts, stops, gap, text, part, open_next, close_next, parenthesised, behind_guard}
use Rattle.luf_kept.proofs.SnugDrafted.{IsFilled, IsGiven}

leads_more_words : (names : List (List ℕ)) → Leads (more_words names)
leads_more_words [] more goal rest = rest
leads_more_words (name ∷ names) more goal rest = gap refl (text (gap refl (text (leads_more_words names more goal rest))))

pub starts_words : (names : List (List ℕ)) → IsFilled names → Starts (words names)
starts_words [] some more goal rest = absurd some
starts_words (name ∷ names) some more goal rest = text (leads_more_words names more goal rest)

follows_parameters : (names : List (List ℕ)) → Follows (drafts (more_parameters names)) at_word
follows_parameters [] = stops
follows_parameters (name ∷ names) = gap refl (text (gap refl (text (follows_parameters names))))

pub starts_parameters : (names : List (List ℕ)) → Starts (parameters names)
starts_parameters [] more goal rest = text (gap refl (text rest))
starts_parameters (name ∷ names) more goal rest = part (parenthesised (text (follows_parameters names))) rest

leads_attribute : (a : Option (List ℕ)) → Leads (attribute a)
leads_attribute None more goal rest = rest
leads_attribute (Some name) more goal rest = gap refl (text (gap refl (text (gap refl (text rest)))))

leads_more_declared : (ds : List (syntax.DeclaredName Words)) → Leads (more_declared ds)
leads_more_declared [] more goal rest = rest
leads_more_declared (d ∷ ds) more goal rest = gap refl (text (gap refl (text (leads_attribute d.attribute _ goal (leads_more_declared ds more goal rest)))))

pub starts_declared : (ds : List (syntax.DeclaredName Words)) → IsFilled ds → Starts (declared ds)
starts_declared [] some more goal rest = absurd some
starts_declared (d ∷ ds) some more goal rest = text (leads_attribute d.attribute _ goal (leads_more_declared ds more goal rest))

leads_fields : (names : List (List ℕ)) → Leads (path_fields names)
leads_fields [] more goal rest = rest
leads_fields (name ∷ names) more goal rest = gap refl (text (gap refl (text (leads_fields names more goal rest))))

pub starts_path : (name : Option (List ℕ)) (fields : List (List ℕ)) → IsGiven name → Starts (path name fields)
starts_path None fields some more goal rest = absurd some
starts_path (Some name) fields some more goal rest = text (leads_fields fields more goal rest)

pub leads_method : (m : Option (List ℕ)) → Leads (method m)
leads_method None more goal rest = rest
leads_method (Some name) more goal rest = gap refl (text (gap refl (text rest)))

pub follows_sign : (is_not : Bool) {rest : Drafts} {goal : Goal} → Runs rest free goal → Follows (also (cond is_not space tight) rest) goal
follows_sign true rest = gap refl rest
follows_sign false rest = gap refl rest

-- a statement behind others
guarded_if : (d : Draft) → Whole d → (guards : Bool) → opens (first_word d None) ≡ guards → (more : List Draft) (goal : Goal) → Follows (drafts more) goal
    → Runs (drafts (cond guards (word (codes ";") ∷ d ∷ more) (d ∷ more))) free goal
guarded_if d steps true is more goal rest = text (behind_guard steps is rest)
guarded_if d steps false is more goal rest = part steps rest

pub starts_guarded : (d : Draft) → Whole d → Starts (guarded d)
starts_guarded d steps more goal rest = guarded_if d steps (opens (first_word d None)) refl more goal rest

module _ (string_has table_has : Bool → Bool) where
  leads_lone : (paren : Bool) (form : List Draft → List Draft) → Starts form → Leads (lone string_has table_has paren form)
  leads_lone true form starts more goal rest = open_next (gap refl (starts _ goal (close_next rest)))
  leads_lone false form starts more goal rest = gap refl (starts more goal rest)

  pub leads_arguments_as : (k : Items) (had : Bool) (listed broken : List Draft → List Draft) → Starts listed → Starts broken → Leads (arguments_as string_has table_has k had listed broken)
  leads_arguments_as no_items had listed broken starts starts_broken more goal rest = gap refl (text (gap refl (text rest)))
  leads_arguments_as lone_string had listed broken starts starts_broken more goal rest = leads_lone (string_has had) listed starts more goal rest
  leads_arguments_as lone_table had listed broken starts starts_broken more goal rest = leads_lone (table_has had) listed starts more goal rest
  leads_arguments_as with_block had listed broken starts starts_broken more goal rest = gap refl (text (gap refl (starts _ goal (gap refl (text rest)))))
  leads_arguments_as plain_items had listed broken starts starts_broken more goal rest = gap refl (part (parenthesised (starts_broken [] at_word stops)) rest)
