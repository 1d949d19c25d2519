-- Each operation stands at its number in the list of all, so that numbers are below 83, and no two are the same.
use Rattle.std.proofs.Common.{◌≡◌, ◌∙◌, ap, refl, ℕ, ◌+◌, ◌<◌, zero, suc, Bool, true, ◌&&◌, eqb, List, [], ◌∷◌, slice_get, Some, zero-add, arith}
use Rattle.std.proofs.lemmas.Bool.{and_parts, eqb-true}
use Rattle.std.proofs.lemmas.Option.{slice_get_within}
use Rattle.luf_ops.specs.Operation.{number_of, operations}
use Rattle.luf_ops.specs.declared.op.Op.{Op}
use Rattle.luf_ops.specs.declared.op.Op.TheVariants as op

pub slice_get-number_of : (o : Op) → slice_get operations (number_of o) ≡ Some o
unfolding operations
slice_get-number_of op.Move = refl
slice_get-number_of op.LoadI = refl
slice_get-number_of op.LoadF = refl
slice_get-number_of op.LoadK = refl
slice_get-number_of op.LoadKX = refl
slice_get-number_of op.LoadFalse = refl
slice_get-number_of op.LFalseSkip = refl
slice_get-number_of op.LoadTrue = refl
slice_get-number_of op.LoadNil = refl
slice_get-number_of op.GetUpval = refl
slice_get-number_of op.SetUpval = refl
slice_get-number_of op.GetTabUp = refl
slice_get-number_of op.GetTable = refl
slice_get-number_of op.GetI = refl
slice_get-number_of op.GetField = refl
slice_get-number_of op.SetTabUp = refl
slice_get-number_of op.SetTable = refl
slice_get-number_of op.SetI = refl
slice_get-number_of op.SetField = refl
slice_get-number_of op.NewTable = refl
slice_get-number_of op.SelfKey = refl
slice_get-number_of op.AddI = refl
slice_get-number_of op.AddK = refl
slice_get-number_of op.SubK = refl
slice_get-number_of op.MulK = refl
slice_get-number_of op.ModK = refl
slice_get-number_of op.PowK = refl
slice_get-number_of op.DivK = refl
slice_get-number_of op.IDivK = refl
slice_get-number_of op.BAndK = refl
slice_get-number_of op.BOrK = refl
slice_get-number_of op.BXorK = refl
slice_get-number_of op.ShrI = refl
slice_get-number_of op.ShlI = refl
slice_get-number_of op.Add = refl
slice_get-number_of op.Sub = refl
slice_get-number_of op.Mul = refl
slice_get-number_of op.Mod = refl
slice_get-number_of op.Pow = refl
slice_get-number_of op.Div = refl
slice_get-number_of op.IDiv = refl
slice_get-number_of op.BAnd = refl
slice_get-number_of op.BOr = refl
slice_get-number_of op.BXor = refl
slice_get-number_of op.Shl = refl
slice_get-number_of op.Shr = refl
slice_get-number_of op.MmBin = refl
slice_get-number_of op.MmBinI = refl
slice_get-number_of op.MmBinK = refl
slice_get-number_of op.Unm = refl
slice_get-number_of op.BNot = refl
slice_get-number_of op.Not = refl
slice_get-number_of op.Len = refl
slice_get-number_of op.Concat = refl
slice_get-number_of op.Close = refl
slice_get-number_of op.Tbc = refl
slice_get-number_of op.Jmp = refl
slice_get-number_of op.Eq = refl
slice_get-number_of op.Lt = refl
slice_get-number_of op.Le = refl
slice_get-number_of op.EqK = refl
slice_get-number_of op.EqI = refl
slice_get-number_of op.LtI = refl
slice_get-number_of op.LeI = refl
slice_get-number_of op.GtI = refl
slice_get-number_of op.GeI = refl
slice_get-number_of op.Test = refl
slice_get-number_of op.TestSet = refl
slice_get-number_of op.Call = refl
slice_get-number_of op.TailCall = refl
slice_get-number_of op.Return = refl
slice_get-number_of op.Return0 = refl
slice_get-number_of op.Return1 = refl
slice_get-number_of op.ForLoop = refl
slice_get-number_of op.ForPrep = refl
slice_get-number_of op.TForPrep = refl
slice_get-number_of op.TForCall = refl
slice_get-number_of op.TForLoop = refl
slice_get-number_of op.SetList = refl
slice_get-number_of op.Closure = refl
slice_get-number_of op.VarArg = refl
slice_get-number_of op.VarArgPrep = refl
slice_get-number_of op.ExtraArg = refl

pub number_of-below : (o : Op) → number_of o < 83
unfolding operations
number_of-below o = slice_get_within operations (number_of o) o (slice_get-number_of o)

pub number_of-same : (o p : Op) → number_of o ≡ number_of p → o ≡ p
number_of-same o p e =
    let at_o = slice_get-number_of o in
    let at_p = slice_get-number_of p in
    let numbers : slice_get operations (number_of o) ≡ slice_get operations (number_of p) = ap (slice_get operations) e in
    cc

-- and at each number below 83 the operation that has it
in_order : ℕ → List Op → Bool
in_order first [] = true
in_order first (o ∷ os) = eqb (number_of o) first && in_order (suc first) os

number_of-in_order : (first : ℕ) (os : List Op) (n : ℕ) (o : Op) → in_order first os ≡ true → slice_get os n ≡ Some o → number_of o ≡ first + n
unfolding in_order
number_of-in_order first [] n o ordered at = cc
number_of-in_order first (p ∷ os) zero o ordered at =
    let e : number_of p ≡ first = eqb-true (number_of p) first (and_parts (eqb (number_of p) first) (in_order (suc first) os) ordered).0 in
    let same : p ≡ o = cc in
    let f : number_of p ≡ number_of o = ap number_of same in
    omega arith
number_of-in_order first (p ∷ os) (suc n) o ordered at =
    let e : number_of o ≡ suc first + n = number_of-in_order (suc first) os n o (and_parts (eqb (number_of p) first) (in_order (suc first) os) ordered).1 at in
    omega arith

pub number_of-slice_get : (n : ℕ) (o : Op) → slice_get operations n ≡ Some o → number_of o ≡ n
unfolding operations in_order
number_of-slice_get n o at = number_of-in_order 0 operations n o refl at ∙ zero-add n
