-- What stops the block of all tokens is the exact cause of a refusal.
use Rattle.std.proofs.Common.{◌≡◌, ℕ, zero, suc, ◌+◌, ◌<◌, ◌≤◌, ◌⊎◌, inl, inr, false, Some, List, [], ◌∷◌, ◌++◌, length, take, slice_get, refl, sym, ap, ◌∙◌, subst, arith}
use Rattle.std.proofs.lemmas.Bool.{cases_lt}
use Rattle.std.proofs.lemmas.List.{length-take, length-append}
use Rattle.std.proofs.lemmas.Option.{slice_get_within}
use Rattle.luf_lex.specs.declared.token.Tok.{Tok}
use Rattle.luf_lex.specs.declared.token.Tok.TheVariants.{Sign}
use Rattle.luf_lex.specs.declared.token.Sign.TheVariants as sign
use Rattle.luf_tree.specs.declared.tree.Block.{Block, out-Block}
use Rattle.luf_tree.specs.Agree.{AgreeBefore}
use Rattle.luf_tree.specs.Entry.{entries}
use Rattle.luf_tree.specs.Grammar.{IsBlock, NoParenFollows}
use Rattle.luf_tree.specs.Level.{depth_of, level_limit, block_levels}
use Rattle.luf_tree.proofs.Alone.{cut_agrees, cut_off}
use Rattle.luf_tree.proofs.Locality.{local_block}
use Rattle.luf_exact.proofs.SameEntries.{same_entries}
use Rattle.luf_descent.specs.Parts.{ReadBlock}
use Rattle.luf_descent.specs.PartEntries.{block_entries}
use Rattle.luf_descent.specs.PartStops.{StopsBlock}
use Rattle.luf_descent.specs.Stops.{Known, Kind, wrong, deep, behind, Stand, stand_none, stand_more, Within, Completes}
use Rattle.luf_descent.specs.declared.error.ParseErr.{ParseErr}
use Rattle.luf_descent.specs.declared.error.ParseErr.TheVariants as error
use Rattle.luf_descent.proofs.Ends.{block_to}
use Rattle.luf_descent.proofs.Completing.{agree_less}
use Rattle.luf_descent.proofs.Low.{low_block}
use Rattle.luf_exact.specs.Exact.{Begins, EntersTooDeep, IsSyntaxAt, IsExactCause}
use Rattle.luf_exact.proofs.WholeBlock.{chunk_read}

-- tokens behind others
longer : (xs ys : List Tok) (k : ℕ) → k < length xs → slice_get (xs ++ ys) k ≡ slice_get xs k
longer [] ys k low = absurd (omega arith)
longer (x ∷ xs) ys zero low = refl
longer (x ∷ xs) ys (suc k) low = longer xs ys k (omega arith)

seam : (xs ys : List Tok) (k : ℕ) → slice_get (xs ++ ys) (length xs + k) ≡ slice_get ys k
seam [] ys k = let e : length {A = Tok} [] + k ≡ k = omega arith in ap (slice_get ys) e
seam (x ∷ xs) ys k = let e : length (x ∷ xs) + k ≡ suc (length xs + k) = omega arith in ap (slice_get (x ∷ (xs ++ ys))) e ∙ seam xs ys k

stand_by : (l ys : List Tok) (i : ℕ) → ((k : ℕ) → k < length ys → slice_get l (i + k) ≡ slice_get ys k) → Stand l i ys (i + length ys)
stand_by l [] i same = subst (λ (k : ℕ). Stand l i [] k) (omega arith) stand_none
stand_by l (y ∷ ys) i same =
    stand_more (record { there = subst (λ (p : ℕ). slice_get l p ≡ Some y) (omega arith) (same zero (omega arith)); next = refl })
    (subst (λ (k : ℕ). Stand l (i + 1) ys k) (omega arith) (stand_by l ys (i + 1) (λ k low. subst (λ (p : ℕ). slice_get l p ≡ slice_get ys k) (omega arith) (same (suc k) (omega arith)))))

-- the list of the first tokens and what completes them
record Whole (toks : List Tok) (place : ℕ) (more : List Tok) : Type 0 where
  other : List Tok
  agrees : AgreeBefore toks other place
  stand : Stand other place more (length other)
  closes : NoParenFollows other (length other)

whole : (toks : List Tok) (place : ℕ) (more : List Tok) → place ≤ length toks → Whole toks place more
whole toks place more le =
    let front = take place toks in
    let long : length front ≡ place = omega (arith, length-take place toks) in
    let all : place + length more ≡ length (front ++ more) = omega (arith, length-append front more) in
    record {
      other = front ++ more;
      agrees = record { same = λ k low. longer front more k (omega arith) ∙ (cut_agrees toks place).same k low };
      stand = subst (λ (k : ℕ). Stand (front ++ more) place more k) all (stand_by (front ++ more) more place (λ k low. subst (λ (p : ℕ). slice_get (front ++ more) (p + k) ≡ slice_get more k) long (seam front more k)));
      closes = λ there. let past = slice_get_within (front ++ more) (length (front ++ more)) (Sign sign.LeftParen) there in omega arith;
    }

-- the chunk of a completed block
record Completed (kind : Kind) (toks : List Tok) (token : ℕ) : Type 0 where
  begins : Begins toks (behind kind token)
  levels : Within kind token level_limit 0 (entries begins.chunk)

completed : {kind : Kind} {toks : List Tok} {t : ℕ} → Completes kind toks 0 level_limit t false (λ l k x. IsBlock l 0 k x) block_entries → Completed kind toks t
completed {kind} {toks} {t} c =
    let w = whole toks (behind kind t) c.more c.within in
    let m = c.made w.other (length w.other) w.agrees w.stand w.closes in
    record { begins = record { other = w.other; agrees = w.agrees; chunk = record { block = m.part }; derived = m.derived }; levels = m.levels 0 }

-- an earlier token enters no level too many
shallow : {kind : Kind} {toks : List Tok} {t : ℕ} → Completed kind toks t → t ≤ behind kind t → (k : ℕ) → k < t → EntersTooDeep toks k → ⊥
shallow {kind} {toks} {t} c le k low h =
    let b = h.begins in
    let agree : AgreeBefore b.other c.begins.other (k + 1) = record { same = λ i less. c.begins.agrees.same i (omega arith) ∙ sym (b.agrees.same i less) } in
    let here = same_entries b.other c.begins.other b.chunk c.begins.chunk (k + 1) b.derived c.begins.derived agree (record { token = k; level = level_limit + 1 }) (omega arith) h.enters in
    let small = c.levels.before (record { token = k; level = level_limit + 1 }) here low in
    absurd (omega arith)

none_begins : {toks : List Tok} (t : ℕ) → ((l : List Tok) → AgreeBefore toks l (t + 1) → (n : ℕ) (y : Block) → ReadBlock l n 0 y → ⊥) → Begins toks (t + 1) → ⊥
none_begins t none b = none b.other b.agrees (depth_of b.chunk) b.chunk.block (chunk_read b.chunk b.derived (omega arith))

fewer : {toks : List Tok} {n m : ℕ} → Begins toks n → m ≤ n → Begins toks m
fewer b le = record { other = b.other; agrees = agree_less b.agrees le; chunk = b.chunk; derived = b.derived }

pub exact_stop : (toks : List Tok) (e : ParseErr) → StopsBlock toks level_limit 0 e → IsExactCause toks e
exact_stop toks (error.Syntax t) h =
    let c = completed (h.completes wrong t refl) in
    let none = none_begins t (h.nothing t refl) in
    record {
      no_tree = λ chunk tree. h.nothing t refl toks (record { same = λ k low. refl }) (depth_of chunk) chunk.block (chunk_read chunk tree (omega arith));
      not_deep = λ k x. either none c k x (cases_lt k t);
      stops = none;
      first = λ k low. fewer c.begins (omega arith);
    }
  where
    either : (Begins toks (t + 1) → ⊥) → Completed wrong toks t → (k : ℕ) → EntersTooDeep toks k → (k < t) ⊎ (t ≤ k) → ⊥
    either none c k x (inl low) = shallow c (omega arith) k low x
    either none c k x (inr le) = none (fewer x.begins (omega arith))
exact_stop toks (error.TooDeep t) h =
    let d = h.completes deep t refl in
    let c = completed d in
    let w = d.within in
    record {
      enters = record { within = omega arith; begins = c.begins; enters = c.levels.enters refl };
      first = λ k low. shallow c (omega arith) k low;
    }
exact_stop toks error.Memory h = tt

record There (xs : List Tok) (k : ℕ) : Type 0 where
  tok : Tok
  there : slice_get xs k ≡ Some tok

token_there : (xs : List Tok) (k : ℕ) → k < length xs → There xs k
token_there [] k low = absurd (omega arith)
token_there (x ∷ xs) zero low = record { tok = x; there = refl }
token_there (x ∷ xs) (suc k) low = let t = token_there xs k (omega arith) in record { tok = t.tok; there = t.there }

-- the one block that there is does not have all tokens

short_none : {toks : List Tok} {b : Block} {to : ℕ} → IsBlock toks 0 to b → to < length toks → Known toks to (λ l n. ReadBlock l n 0) b → Begins toks (to + 1) → ⊥
short_none {toks} {b} {to} d short known x =
    let t = token_there toks to short in
    let within = slice_get_within x.other to t.tok (x.agrees.same to (omega arith) ∙ t.there) in
    let same = known.only x.other x.agrees (depth_of x.chunk) x.chunk.block (chunk_read x.chunk x.derived (omega arith)) in
    let a = ap (λ (z : Block). (out-Block z).to) same in
    let p = block_to x.derived in
    let q = block_to d in
    omega arith

abbrev short_begins : {toks : List Tok} {b : Block} {to : ℕ} → IsBlock toks 0 to b → to ≤ length toks → Begins toks to
short_begins {toks} {b} {to} d within = record {
  other = take to toks;
  agrees = cut_agrees toks to;
  chunk = record { block = b };
  derived = subst (λ (k : ℕ). IsBlock (take to toks) 0 k b) (omega (arith, length-take to toks)) (cut_off (local_block d));
}

short_low : {toks : List Tok} {b : Block} {to : ℕ} → IsBlock toks 0 to b → to ≤ length toks → block_levels b ≤ level_limit → (k : ℕ) → k < to → EntersTooDeep toks k → ⊥
short_low {toks} {b} {to} d within low k less h =
    let c = short_begins d within in
    let x = h.begins in
    let agree : AgreeBefore x.other c.other (k + 1) = record { same = λ i before. c.agrees.same i (omega arith) ∙ sym (x.agrees.same i before) } in
    let here = same_entries x.other c.other x.chunk c.chunk (k + 1) x.derived c.derived agree (record { token = k; level = level_limit + 1 }) (omega arith) h.enters in
    let small = low_block 0 b low (record { token = k; level = level_limit + 1 }) here in
    omega arith

pub exact_short : {toks : List Tok} {b : Block} {to : ℕ} → IsBlock toks 0 to b → to ≤ length toks → (to ≡ length toks → ⊥) → block_levels b ≤ level_limit → Known toks to (λ l n. ReadBlock l n 0) b → IsSyntaxAt toks to
exact_short {toks} {b} {to} d within short low known = at (less (cases_lt to (length toks)))
  where
    less : (to < length toks) ⊎ (length toks ≤ to) → to < length toks
    less (inl l) = l
    less (inr g) = absurd (short (omega arith))

    at : to < length toks → IsSyntaxAt toks to
    at less =
        let none = short_none d less known in
        record {
          no_tree = λ chunk tree. none (record { other = toks; agrees = record { same = λ k low. refl }; chunk = chunk; derived = tree });
          not_deep = λ k x. either k x none (cases_lt k to);
          stops = none;
          first = λ k before. fewer (short_begins d within) (omega arith);
        }
      where
        either : (k : ℕ) → EntersTooDeep toks k → (Begins toks (to + 1) → ⊥) → (k < to) ⊎ (to ≤ k) → ⊥
        either k x none (inl before) = short_low d within low k before x
        either k x none (inr le) = none (fewer x.begins (omega arith))
