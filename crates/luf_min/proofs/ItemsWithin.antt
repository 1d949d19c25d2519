-- The items of a chunk are words of its own tokens: no number of a token reaches beyond them.
use Rattle.std.proofs.Common.{◌≡◌, ℕ, ◌<◌, ◌≤◌, ◌⊎◌, Bool, true, false, List, [], ◌∷◌, length, get_or, All, refl, sym, ap, ◌∙◌, subst, ⊎_elim}
use Rattle.std.proofs.lemmas.Bool.{false≢true, cases_lt}
use Rattle.std.proofs.lemmas.List.{get_or_past, get_or_default}
use Rattle.std.proofs.lemmas.List.Elements.{All-nil, All-cons}
use Rattle.std.proofs.lemmas.Option.{get_or_from_slice_get}
use Rattle.luf_lex.specs.declared.token.Tok.{Tok}
use Rattle.luf_lex.specs.declared.token.Tok.TheVariants as tok
use Rattle.luf_lex.specs.declared.token.Sign.TheVariants as sign
use Rattle.luf_tree.specs.declared.tree.Chunk.{Chunk}
use Rattle.luf_tree.specs.Grammar.{IsChunk}
use Rattle.luf_tree.specs.SyntaxOf.{syntax_of}
use Rattle.luf_bare.specs.Writing.{opens}
use Rattle.luf_bare.proofs.Written.{tell_block}
use Rattle.luf_resolved.proofs.Paired.{Paired, nothing, more}
use Rattle.luf_min.specs.declared.item.Item.{Item}
use Rattle.luf_min.specs.declared.item.Item.TheVariants.{Token}
use Rattle.luf_min.specs.inner.Items.{kind_of, item_of, added_items, never_trails, never_encloses, items_in_block, IsWithin}
use Rattle.luf_bare.proofs.EachWritten.{Each, all_none, all_more}
use Rattle.luf_min.proofs.EachSound.{is_semicolon, Sound, sound_block}
use Rattle.luf_min.proofs.PairedWritten.{paired_block}

-- a word of a text by where it is from: a token of the source, or one that is put or added
data Mark : Type 0 where
  own : ℕ → Mark
  put : Tok → Mark
  added : Tok → Mark

-- behind the last token stands a `;`, which no word of the program is
abbrev kind_at : List Tok → Mark → Tok
kind_at toks (own n) = get_or toks n (tok.Sign sign.Semicolon)
kind_at toks (put t) = t
kind_at toks (added t) = t

abbrev is_added : Mark → Bool
is_added (added t) = true
is_added _ = false

abbrev addition : Tok → List Mark
addition t = added t ∷ []

abbrev marked_item : Mark → Item
marked_item (own n) = Token n
marked_item (put t) = item_of t
marked_item (added t) = item_of t

-- the item of a mark
abbrev IsItem : Mark → Item → Type 0
IsItem m x = marked_item m ≡ x

opens_past : (toks : List Tok) (n : ℕ) → opens (get_or toks n (tok.Sign sign.Semicolon)) ≡ opens (get_or toks n tok.Name)
opens_past toks n = by (cases_lt n (length toks))
  where
    by : (n < length toks) ⊎ (length toks ≤ n) → opens (get_or toks n (tok.Sign sign.Semicolon)) ≡ opens (get_or toks n tok.Name)
    by order = ⊎_elim (λ less. ap opens (get_or_default toks n _ _ less)) (λ past. ap opens (get_or_past toks n (tok.Sign sign.Semicolon) past) ∙ sym (ap opens (get_or_past toks n tok.Name past))) order

opens_item : (toks : List Tok) (t : Tok) → opens t ≡ opens (kind_of toks (item_of t))
opens_item toks (tok.Word w) = refl
opens_item toks (tok.Sign s) = refl
opens_item toks tok.Name = refl
opens_item toks tok.Number = refl
opens_item toks tok.Short = refl
opens_item toks tok.Long = refl

marked_opens : (toks : List Tok) (m : Mark) → opens (kind_at toks m) ≡ opens (kind_of toks (marked_item m))
marked_opens toks (own n) = opens_past toks n
marked_opens toks (put t) = opens_item toks t
marked_opens toks (added t) = opens_item toks t

item_within : (count : ℕ) (t : Tok) → IsWithin count (item_of t)
item_within count (tok.Word w) = tt
item_within count (tok.Sign s) = tt
item_within count tok.Name = tt
item_within count tok.Number = tt
item_within count tok.Short = tt
item_within count tok.Long = tt

-- a word of the program is no `;`, and so is one of its tokens
mark_within : (toks : List Tok) (m : Mark) → Sound (kind_at toks) is_added m → IsWithin (length toks) (marked_item m)
mark_within toks (own n) sound = ⊎_elim (λ less. less) (λ past. absurd (false≢true (sym (sound refl) ∙ ap is_semicolon (get_or_past toks n (tok.Sign sign.Semicolon) past)))) (cases_lt n (length toks))
mark_within toks (put t) sound = item_within (length toks) t
mark_within toks (added t) sound = item_within (length toks) t

all_within : (toks : List Tok) {marks : List Mark} {items : List Item} → Each (Sound (kind_at toks) is_added) marks → Paired IsItem marks items → All (IsWithin (length toks)) items
all_within toks all_none nothing = All-nil (IsWithin (length toks))
all_within toks (all_more {x = m} sound all) (more {y} {ys} is there) = All-cons (IsWithin (length toks)) y ys (subst (IsWithin (length toks)) is (mark_within toks m sound)) (all_within toks all there)

pub items_within : (toks : List Tok) (chunk : Chunk) → IsChunk toks chunk → All (IsWithin (length toks)) (items_in_block toks (syntax_of chunk))
items_within toks chunk derived =
    all_within toks
    (sound_block (kind_at toks) is_added
    (tell_block (kind_at toks) is_added put added (λ t. (refl, refl)) (λ t. (refl, refl)) toks own (λ i t there. get_or_from_slice_get toks i t (tok.Sign sign.Semicolon) there) (λ i. refl) never_trails never_encloses derived))
    (paired_block (kind_at toks) put addition (kind_of toks) item_of added_items never_trails never_encloses own Token IsItem
    (λ m x is. marked_opens toks m ∙ ap (λ (y : Item). opens (kind_of toks y)) is) (λ t fixed. refl) (λ t fixed. more refl nothing) (λ i. refl) (syntax_of chunk))
