use Rattle.std.proofs.Common.{◌≡◌, ◌∙◌, sym, ap, ◌<◌, ◌-◌, ◌*◌, ◌/◌, ◌%◌, ◌^◌, ℕ, zero, suc, List, [], ◌∷◌, ◌++◌, append_assoc, refl, arith}
use Rattle.std.proofs.lemmas.Nat.{and_mask}
use Rattle.luf_list.specs.Listing.{hex, hex_digit}
use Rattle.luf_list.proofs.Kept.{kept_more}
use Rattle.luf_list.proofs.code.write_hex.Goals as goal

hex_more : (left n : ℕ) → 0 < left → hex left n ≡ hex_digit (n / 2 ^ (4 * (left - 1)) % 2 ^ 4) ∷ hex (left - 1) n
hex_more zero n some = absurd (omega arith)
hex_more (suc left) n some = let e : suc left - 1 ≡ left = omega arith in rw e refl

-- one more digit is written
digit_written : (all mid new rest left : List ℕ) (d e : ℕ) → new ≡ mid ++ d ∷ [] → d ≡ e → left ≡ e ∷ rest → mid ++ left ≡ all → new ++ rest ≡ all
digit_written all mid new rest left d e is digit more before =
    ap (λ xs. xs ++ rest) is ∙ append_assoc mid (d ∷ []) rest ∙ ap (λ x. mid ++ x ∷ rest) digit ∙ ap (λ xs. mid ++ xs) (sym more) ∙ before

pub loop-left-preserved : goal.loop-left-preserved
loop-left-preserved c = (
  omega arith,
  digit_written _ _ _ _ _ _ _ c.in_ok-push.ensures.items (c.hex_digit.ensures ∙ ap hex_digit (and_mask (c.args.number / 2 ^ (4 * (c.loop-left.left - 1))) 4)) (hex_more c.loop-left.left c.args.number c.loop-left-test.true) c.loop-left.invariant.1,
  kept_more _ _ _ _ c.loop-left.invariant.2 c.in_ok-push.ensures.items,
)
