use Rattle.std.specs.Prelude.{ℕ, List, codes}
use Rattle.luf_lex.specs.declared.token.Word.{Word}
use Rattle.luf_lex.specs.declared.token.Word.TheVariants.{And, Break, Do, Else, ElseIf, End, False, For, Function, Goto, If, In, Local, Nil, Not, Or, Repeat, Return, Then, True, Until, While}

-- how a keyword is spelled (Lua 5.4 manual, 3.1)
abbrev pub word_spelling : Word → List ℕ
word_spelling And = codes "and"
word_spelling Break = codes "break"
word_spelling Do = codes "do"
word_spelling Else = codes "else"
word_spelling ElseIf = codes "elseif"
word_spelling End = codes "end"
word_spelling False = codes "false"
word_spelling For = codes "for"
word_spelling Function = codes "function"
word_spelling Goto = codes "goto"
word_spelling If = codes "if"
word_spelling In = codes "in"
word_spelling Local = codes "local"
word_spelling Nil = codes "nil"
word_spelling Not = codes "not"
word_spelling Or = codes "or"
word_spelling Repeat = codes "repeat"
word_spelling Return = codes "return"
word_spelling Then = codes "then"
word_spelling True = codes "true"
word_spelling Until = codes "until"
word_spelling While = codes "while"
