-- The operations of the virtual machine of Lua 5.4: numbers, names and forms, in the order of the enumeration OpCode of
-- lopcodes.h. The form is that of the fields in its comment: A B C and k, or A Bx, A sBx, Ax, sJ.
use Rattle.std.specs.Prelude.{ℕ, List, [], ◌∷◌, codes}
use Rattle.luf_ops.specs.declared.op.Op.{Op}
use Rattle.luf_ops.specs.declared.op.Op.TheVariants as op
use Rattle.luf_ops.specs.declared.form.Form.{Form}
use Rattle.luf_ops.specs.declared.form.Form.TheVariants.{Abc, Abx, Asbx, Ax, Sj}

pub record Row : Type 0 where
  pub number : ℕ
  pub name : List ℕ
  pub form : Form

abbrev pub row : ℕ → List ℕ → Form → Row
row number name form = record { number = number; name = name; form = form }

abbrev pub row_of : Op → Row
row_of op.Move = row 0 (codes "MOVE") Abc
row_of op.LoadI = row 1 (codes "LOADI") Asbx
row_of op.LoadF = row 2 (codes "LOADF") Asbx
row_of op.LoadK = row 3 (codes "LOADK") Abx
row_of op.LoadKX = row 4 (codes "LOADKX") Abx
row_of op.LoadFalse = row 5 (codes "LOADFALSE") Abc
row_of op.LFalseSkip = row 6 (codes "LFALSESKIP") Abc
row_of op.LoadTrue = row 7 (codes "LOADTRUE") Abc
row_of op.LoadNil = row 8 (codes "LOADNIL") Abc
row_of op.GetUpval = row 9 (codes "GETUPVAL") Abc
row_of op.SetUpval = row 10 (codes "SETUPVAL") Abc
row_of op.GetTabUp = row 11 (codes "GETTABUP") Abc
row_of op.GetTable = row 12 (codes "GETTABLE") Abc
row_of op.GetI = row 13 (codes "GETI") Abc
row_of op.GetField = row 14 (codes "GETFIELD") Abc
row_of op.SetTabUp = row 15 (codes "SETTABUP") Abc
row_of op.SetTable = row 16 (codes "SETTABLE") Abc
row_of op.SetI = row 17 (codes "SETI") Abc
row_of op.SetField = row 18 (codes "SETFIELD") Abc
row_of op.NewTable = row 19 (codes "NEWTABLE") Abc
row_of op.SelfKey = row 20 (codes "SELF") Abc
row_of op.AddI = row 21 (codes "ADDI") Abc
row_of op.AddK = row 22 (codes "ADDK") Abc
row_of op.SubK = row 23 (codes "SUBK") Abc
row_of op.MulK = row 24 (codes "MULK") Abc
row_of op.ModK = row 25 (codes "MODK") Abc
row_of op.PowK = row 26 (codes "POWK") Abc
row_of op.DivK = row 27 (codes "DIVK") Abc
row_of op.IDivK = row 28 (codes "IDIVK") Abc
row_of op.BAndK = row 29 (codes "BANDK") Abc
row_of op.BOrK = row 30 (codes "BORK") Abc
row_of op.BXorK = row 31 (codes "BXORK") Abc
row_of op.ShrI = row 32 (codes "SHRI") Abc
row_of op.ShlI = row 33 (codes "SHLI") Abc
row_of op.Add = row 34 (codes "ADD") Abc
row_of op.Sub = row 35 (codes "SUB") Abc
row_of op.Mul = row 36 (codes "MUL") Abc
row_of op.Mod = row 37 (codes "MOD") Abc
row_of op.Pow = row 38 (codes "POW") Abc
row_of op.Div = row 39 (codes "DIV") Abc
row_of op.IDiv = row 40 (codes "IDIV") Abc
row_of op.BAnd = row 41 (codes "BAND") Abc
row_of op.BOr = row 42 (codes "BOR") Abc
row_of op.BXor = row 43 (codes "BXOR") Abc
row_of op.Shl = row 44 (codes "SHL") Abc
row_of op.Shr = row 45 (codes "SHR") Abc
row_of op.MmBin = row 46 (codes "MMBIN") Abc
row_of op.MmBinI = row 47 (codes "MMBINI") Abc
row_of op.MmBinK = row 48 (codes "MMBINK") Abc
row_of op.Unm = row 49 (codes "UNM") Abc
row_of op.BNot = row 50 (codes "BNOT") Abc
row_of op.Not = row 51 (codes "NOT") Abc
row_of op.Len = row 52 (codes "LEN") Abc
row_of op.Concat = row 53 (codes "CONCAT") Abc
row_of op.Close = row 54 (codes "CLOSE") Abc
row_of op.Tbc = row 55 (codes "TBC") Abc
row_of op.Jmp = row 56 (codes "JMP") Sj
row_of op.Eq = row 57 (codes "EQ") Abc
row_of op.Lt = row 58 (codes "LT") Abc
row_of op.Le = row 59 (codes "LE") Abc
row_of op.EqK = row 60 (codes "EQK") Abc
row_of op.EqI = row 61 (codes "EQI") Abc
row_of op.LtI = row 62 (codes "LTI") Abc
row_of op.LeI = row 63 (codes "LEI") Abc
row_of op.GtI = row 64 (codes "GTI") Abc
row_of op.GeI = row 65 (codes "GEI") Abc
row_of op.Test = row 66 (codes "TEST") Abc
row_of op.TestSet = row 67 (codes "TESTSET") Abc
row_of op.Call = row 68 (codes "CALL") Abc
row_of op.TailCall = row 69 (codes "TAILCALL") Abc
row_of op.Return = row 70 (codes "RETURN") Abc
row_of op.Return0 = row 71 (codes "RETURN0") Abc
row_of op.Return1 = row 72 (codes "RETURN1") Abc
row_of op.ForLoop = row 73 (codes "FORLOOP") Abx
row_of op.ForPrep = row 74 (codes "FORPREP") Abx
row_of op.TForPrep = row 75 (codes "TFORPREP") Abx
row_of op.TForCall = row 76 (codes "TFORCALL") Abc
row_of op.TForLoop = row 77 (codes "TFORLOOP") Abx
row_of op.SetList = row 78 (codes "SETLIST") Abc
row_of op.Closure = row 79 (codes "CLOSURE") Abx
row_of op.VarArg = row 80 (codes "VARARG") Abc
row_of op.VarArgPrep = row 81 (codes "VARARGPREP") Abc
row_of op.ExtraArg = row 82 (codes "EXTRAARG") Ax

abbrev pub number_of : Op → ℕ
number_of op = (row_of op).number

abbrev pub name_of : Op → List ℕ
name_of op = (row_of op).name

abbrev pub form_of : Op → Form
form_of op = (row_of op).form

-- all operations, in the order of their numbers
unfoldable pub operations : List Op
operations = op.Move ∷ op.LoadI ∷ op.LoadF ∷ op.LoadK ∷ op.LoadKX ∷ op.LoadFalse ∷ op.LFalseSkip ∷ op.LoadTrue ∷ op.LoadNil ∷ op.GetUpval ∷ op.SetUpval ∷ op.GetTabUp ∷ op.GetTable ∷ op.GetI ∷ op.GetField ∷ op.SetTabUp ∷ op.SetTable ∷ op.SetI ∷ op.SetField ∷ op.NewTable ∷ op.SelfKey ∷ op.AddI ∷ op.AddK ∷ op.SubK ∷ op.MulK ∷ op.ModK ∷ op.PowK ∷ op.DivK ∷ op.IDivK ∷ op.BAndK ∷ op.BOrK ∷ op.BXorK ∷ op.ShrI ∷ op.ShlI ∷ op.Add ∷ op.Sub ∷ op.Mul ∷ op.Mod ∷ op.Pow ∷ op.Div ∷ op.IDiv ∷ op.BAnd ∷ op.BOr ∷ op.BXor ∷ op.Shl ∷ op.Shr ∷ op.MmBin ∷ op.MmBinI ∷ op.MmBinK ∷ op.Unm ∷ op.BNot ∷ op.Not ∷ op.Len ∷ op.Concat ∷ op.Close ∷ op.Tbc ∷ op.Jmp ∷ op.Eq ∷ op.Lt ∷ op.Le ∷ op.EqK ∷ op.EqI ∷ op.LtI ∷ op.LeI ∷ op.GtI ∷ op.GeI ∷ op.Test ∷ op.TestSet ∷ op.Call ∷ op.TailCall ∷ op.Return ∷ op.Return0 ∷ op.Return1 ∷ op.ForLoop ∷ op.ForPrep ∷ op.TForPrep ∷ op.TForCall ∷ op.TForLoop ∷ op.SetList ∷ op.Closure ∷ op.VarArg ∷ op.VarArgPrep ∷ op.ExtraArg ∷ []
