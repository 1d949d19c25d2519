-- The marks of names, parameters, declarations and paths are their forms written flat.
use Rattle.std.proofs.Common.{ℕ, Bool, true, false, Option, Some, None, List, [], ◌∷◌, ◌++◌, map, get_or}
use Rattle.std.specs.Option.{option_map}
use Rattle.luf_tree.specs.TokenSyntax as tokens
use Rattle.luf_bare.specs.Bare.{words_of, as_here, chosen_declared}
use Rattle.luf_draft.specs.Draft.{drafts}
use Rattle.luf_draft.specs.Flat.{Flat}
use Rattle.luf_draft.specs.Form.{more_words, words, more_parameters, parameters, with_dots, attribute, path_fields, path, method, more_declared, declared}
use Rattle.luf_draft.specs.inner.Marks.{listed, comma_and, token_mark, name_marks, dots_behind, parameter_marks, attribute_marks, declared_mark, declared_marks, dot_marks, method_marks, path_marks}
use Rattle.luf_draft.specs.declared.mark.GapKind.TheVariants as kind
use Rattle.luf_draft.proofs.FlatShows.{all_onto, Shows, none, one, joins, Leads}

-- the bytes of a token
abbrev pub says : List (List ℕ) → ℕ → List ℕ
says written n = get_or written n []

module _ (written : List (List ℕ)) where
  shows_more_names : (names : List ℕ) → Leads written (listed (comma_and kind.Space) token_mark false names) (more_words (map (says written) names))
  shows_more_names [] more t = none
  shows_more_names (name ∷ names) more t = one (one (one (one (shows_more_names names more t))))

  pub shows_names : (names : List ℕ) → Leads written (name_marks names) (words (map (says written) names))
  shows_names [] more t = none
  shows_names (name ∷ names) more t = one (shows_more_names names more t)

  shows_more_parameters : (name : ℕ) (before names : List ℕ) (vararg : Bool) (t : List Flat)
      → Shows written (listed (comma_and kind.Line) token_mark false names ++ dots_behind (name ∷ before) vararg) t (all_onto (drafts (more_parameters (with_dots vararg (map (says written) names)))) t)
  shows_more_parameters name before [] false t = none
  shows_more_parameters name before [] true t = one (one (one (one none)))
  shows_more_parameters name before (n ∷ names) false t = one (one (one (one (shows_more_parameters name before names false t))))
  shows_more_parameters name before (n ∷ names) true t = one (one (one (one (shows_more_parameters name before names true t))))

  pub shows_parameters : (names : List ℕ) (vararg : Bool) → Leads written (parameter_marks names vararg) (parameters (with_dots vararg (map (says written) names)))
  shows_parameters [] false more t = one (one (one none))
  shows_parameters [] true more t = one (one (one (one (one (one (one (one (one (one (one (one (one none))))))))))))
  shows_parameters (name ∷ names) false more t =
      one (one (one (one (one (one (one (joins (shows_more_parameters name names names false _) (one (one (one (one (one (one none)))))))))))))
  shows_parameters (name ∷ names) true more t =
      one (one (one (one (one (one (one (joins (shows_more_parameters name names names true _) (one (one (one (one (one (one none)))))))))))))

  shows_attribute : (a : Option ℕ) → Leads written (attribute_marks a) (attribute (option_map (says written) a))
  shows_attribute None more t = none
  shows_attribute (Some name) more t = one (one (one (one (one (one none)))))

  shows_more_declared : (ds : List tokens.DeclaredName) → Leads written (listed (comma_and kind.Space) declared_mark false ds) (more_declared (map (chosen_declared (words_of (says written)) as_here) ds))
  shows_more_declared [] more t = none
  shows_more_declared (d ∷ ds) more t = one (one (one (one (joins (shows_attribute d.attribute _ t) (shows_more_declared ds more t)))))

  pub shows_declared : (ds : List tokens.DeclaredName) → Leads written (declared_marks ds) (declared (map (chosen_declared (words_of (says written)) as_here) ds))
  shows_declared [] more t = none
  shows_declared (d ∷ ds) more t = one (joins (shows_attribute d.attribute _ t) (shows_more_declared ds more t))

  shows_fields : (names : List ℕ) → Leads written (listed dot_marks token_mark false names) (path_fields (map (says written) names))
  shows_fields [] more t = none
  shows_fields (name ∷ names) more t = one (one (one (one (shows_fields names more t))))

  pub shows_path : (name : Option ℕ) (fields : List ℕ) → Leads written (path_marks name fields) (path (option_map (says written) name) (map (says written) fields))
  shows_path None fields more t = shows_fields fields more t
  shows_path (Some name) fields more t = one (shows_fields fields more t)

  pub shows_method : (m : Option ℕ) → Leads written (method_marks m) (method (option_map (says written) m))
  shows_method None more t = none
  shows_method (Some name) more t = one (one (one (one none)))
