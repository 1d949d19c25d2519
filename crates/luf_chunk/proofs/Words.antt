-- What is written with words, one element more, and the first float that has none.
use Rattle.std.proofs.Common.{Bool, Option, None, Some, Result, Ok, Err, ◌≡◌, ℕ, zero, suc, ◌+◌, ◌<◌, ◌≤◌, List, [], ◌∷◌, ◌++◌, map, take, drop, length, get_or, refl, sym, ap, ◌∙◌, subst, append_assoc, append-nil, arith}
use Rattle.std.specs.Prelude.{IfErr, OnErr, OnOk}
use Rattle.std.specs.List.{flat_map, AllByRecursion}
use Rattle.std.proofs.lemmas.List.Concat.{flat_map-append, flat_map-cons}
use Rattle.luf_chunk.specs.Worded.{HasCause, AreWorded, AreWordedConstants, HasNoWord, HasWord, IsFirstWithout, IsWorded, IsWordedConstant, all_floats, constant_floats, floats_of}
use Rattle.luf_chunk.specs.declared.error.ChunkErr.{ChunkErr}
use Rattle.luf_chunk.specs.declared.error.ChunkErr.TheVariants.{FloatReach, Memory}
use Rattle.luf_chunk.specs.inner.Written.{IsNotSpelled, WritesConstant, WritesConstantList, WritesFloat, WritesConstants, WritesFunction, WritesFunctions, WritesList, AreWordedList}
use Rattle.luf_proto.specs.Chunk.{chunk_bytes, constant_bytes, head_bytes, header, list_bytes, no_debug, size, upvalue_bytes, upvalue_count, word_bytes, count_of, function_bytes, functions_bytes}
use Rattle.luf_proto.specs.Function.{Function, Functions, function, more_functions, no_functions}
use Rattle.luf_proto.specs.FunctionOf.{function_of, functions_of}
use Rattle.luf_proto.specs.declared.proto.Proto.{Proto, out-Proto}
use Rattle.luf_proto.specs.declared.proto.Upval.{Upval}
use Rattle.luf_proto.proofs.Stripped.{function_of_parts}
use Rattle.luf_chunk.proofs.Kept.{kept_front, kept_more, kept_through}
use Rattle.luf_proto.specs.declared.proto.Const.{Const}
use Rattle.luf_proto.specs.declared.proto.Const.TheVariants.{Spelled, Word}

-- a list around one of its items
pub split_item : {A : Type 0} (xs : List A) (i : ℕ) (x : A) → i < length xs → x ≡ get_or xs i x → xs ≡ take i xs ++ x ∷ drop (suc i) xs
split_item [] i x within is = absurd (omega arith)
split_item (y ∷ xs) zero x within is = ap (λ z. z ∷ xs) (sym is)
split_item (y ∷ xs) (suc i) x within is = ap (λ t. y ∷ t) (split_item xs i x (omega arith) is)

pub take_item : {A : Type 0} (xs : List A) (i : ℕ) (x : A) → i < length xs → x ≡ get_or xs i x → take (suc i) xs ≡ take i xs ++ x ∷ []
take_item [] i x within is = absurd (omega arith)
take_item (y ∷ xs) zero x within is = ap (λ z. z ∷ []) (sym is)
take_item (y ∷ xs) (suc i) x within is = ap (λ t. y ∷ t) (take_item xs i x (omega arith) is)

-- ---- floats

all_both : (xs ys : List (List ℕ)) → AllByRecursion HasWord xs → AllByRecursion HasWord ys → AllByRecursion HasWord (xs ++ ys)
all_both [] ys hx hy = hy
all_both (x ∷ xs) ys hx hy = (hx.0, all_both xs ys hx.1 hy)

pub first_after : (front floats : List (List ℕ)) (s : List ℕ) → AllByRecursion HasWord front → IsFirstWithout floats s → IsFirstWithout (front ++ floats) s
first_after front floats s words first = record {
  before = front ++ first.before;
  behind = first.behind;
  in_order = ap (λ t. front ++ t) first.in_order ∙ simp append_assoc;
  have_words = all_both front first.before words first.have_words;
  has_none = first.has_none;
}

pub first_before : (floats back : List (List ℕ)) (s : List ℕ) → IsFirstWithout floats s → IsFirstWithout (floats ++ back) s
first_before floats back s first = record {
  before = first.before;
  behind = first.behind ++ back;
  in_order = ap (λ t. t ++ back) first.in_order ∙ simp append_assoc;
  have_words = first.have_words;
  has_none = first.has_none;
}

-- the cause of a part is the cause of the whole, where what comes before has words
pub cause_within : (e : ChunkErr) (front floats back : List (List ℕ)) → AllByRecursion HasWord front → HasCause e floats → HasCause e (front ++ (floats ++ back))
cause_within (FloatReach s) front floats back words first = first_after front (floats ++ back) s words (first_before floats back s first)
cause_within Memory front floats back words cause = tt

-- ---- constants

pub constant_floats-append : (xs ys : List Const) → constant_floats (xs ++ ys) ≡ constant_floats xs ++ constant_floats ys
constant_floats-append [] ys = refl
constant_floats-append (Spelled s ∷ xs) ys = ap (λ t. s ∷ t) (constant_floats-append xs ys)
constant_floats-append (x ∷ xs) ys = constant_floats-append xs ys

pub constants_have_words : (xs ds : List Const) → AreWordedConstants xs ds → AllByRecursion HasWord (constant_floats xs)
constants_have_words [] ds worded = tt
constants_have_words (Spelled s ∷ xs) ds worded = ((worded.2.0, worded.2.1), constants_have_words xs worded.1 worded.3)
constants_have_words (x ∷ xs) ds worded = constants_have_words xs worded.1 worded.3

pub no_word_first : (s spelling : List ℕ) → spelling ≡ s → HasNoWord s → IsFirstWithout (s ∷ []) spelling
no_word_first s spelling same none = rw same (record { before = []; behind = []; in_order = refl; have_words = tt; has_none = none })

pub float_written : {E : Type 0} (r : Result (Unit {0}) E) (constant : Const) (s old new : List ℕ) → constant ≡ Spelled s → OnOk r (WritesFloat s old new) → OnOk r (WritesConstant constant old new)
float_written (Ok u) constant s old new is w = rw is (record { worded = Word w.word; is_worded = (w.word, w.is_word, refl); appended = w.appended })
float_written (Err e) constant s old new is w = tt

pub float_cause : (r : Result (Unit {0}) ChunkErr) (constant : Const) (s : List ℕ) → constant ≡ Spelled s → IfErr r (λ e. HasCause e (s ∷ [])) → IfErr r (λ e. HasCause e (constant_floats (constant ∷ [])))
float_cause (Ok u) constant s is cause = tt
float_cause (Err e) constant s is cause = rw is cause

pub plain_written : (constant : Const) (old new : List ℕ) → IsNotSpelled constant → new ≡ old ++ constant_bytes constant → WritesConstant constant old new
plain_written (Spelled s) old new plain is = absurd plain
plain_written constant old new plain is = record { worded = constant; is_worded = refl; appended = is }

length_worded : (xs ds : List Const) → AreWordedConstants xs ds → length ds ≡ length xs
length_worded [] ds worded = ap length worded
length_worded (x ∷ xs) ds worded = ap length worded.4 ∙ ap suc (length_worded xs worded.1 worded.3)

pub list_written : {E : Type 0} (r : Result (Unit {0}) E) (xs : List Const) (old mid new : List ℕ) → mid ≡ old ++ size (length xs) → OnOk r (WritesConstants xs mid new) → OnOk r (WritesConstantList xs old new)
list_written (Ok u) xs old mid new is w = record {
  worded = w.worded;
  are_worded = w.are_worded;
  appended = w.appended ∙ ap (λ t. t ++ flat_map constant_bytes w.worded) (is ∙ ap (λ n. old ++ size n) (sym (length_worded xs w.worded w.are_worded)))
      ∙ append_assoc old (size (length w.worded)) (flat_map constant_bytes w.worded);
}
list_written (Err e) xs old mid new is w = tt

worded_more : (xs ds : List Const) (x d : Const) → AreWordedConstants xs ds → IsWordedConstant x d → AreWordedConstants (xs ++ x ∷ []) (ds ++ d ∷ [])
worded_more [] ds x d worded is = (d, [], is, refl, ap (λ t. t ++ d ∷ []) worded)
worded_more (y ∷ xs) ds x d worded is =
    (worded.0, worded.1 ++ d ∷ [], worded.2, worded_more xs worded.1 x d worded.3 is, ap (λ t. t ++ d ∷ []) worded.4)

flat_map_more : {A : Type 0} (f : A → List ℕ) (xs : List A) (x : A) → flat_map f (xs ++ x ∷ []) ≡ flat_map f xs ++ f x
flat_map_more f xs x = flat_map-append f xs (x ∷ []) ∙ ap (λ t. flat_map f xs ++ t) (flat_map-cons f x [] ∙ append-nil (f x))

pub constants_more : (xs : List Const) (i : ℕ) (x : Const) (old mid new : List ℕ) → i < length xs → x ≡ get_or xs i x
    → WritesConstants (take i xs) old mid → WritesConstant x mid new → WritesConstants (take (suc i) xs) old new
constants_more xs i x old mid new within is before one = rw (take_item xs i x within is) (record {
  worded = before.worded ++ one.worded ∷ [];
  are_worded = worded_more (take i xs) before.worded x one.worded before.are_worded one.is_worded;
  appended = one.appended ∙ ap (λ t. t ++ constant_bytes one.worded) before.appended ∙ append_assoc old (flat_map constant_bytes before.worded) (constant_bytes one.worded)
      ∙ ap (λ t. old ++ t) (sym (flat_map_more constant_bytes before.worded one.worded));
})

pub constants_cause : (e : ChunkErr) (xs : List Const) (i : ℕ) (x : Const) (old mid : List ℕ) → i < length xs → x ≡ get_or xs i x
    → WritesConstants (take i xs) old mid → HasCause e (constant_floats (x ∷ [])) → HasCause e (constant_floats xs)
constants_cause e xs i x old mid within is before cause =
    let whole : constant_floats xs ≡ constant_floats (take i xs) ++ (constant_floats (x ∷ []) ++ constant_floats (drop (suc i) xs)) =
    ap constant_floats (split_item xs i x within is) ∙ constant_floats-append (take i xs) (x ∷ drop (suc i) xs)
    ∙ ap (λ t. constant_floats (take i xs) ++ t) (constant_floats-append (x ∷ []) (drop (suc i) xs)) in
    subst (HasCause e) (sym whole) (cause_within e (constant_floats (take i xs)) (constant_floats (x ∷ [])) (constant_floats (drop (suc i) xs))
    (constants_have_words (take i xs) before.worded before.are_worded) cause)

-- ---- functions

mutual
  pub has_words : (f g : Function) → IsWorded f g → AllByRecursion HasWord (floats_of f)
  has_words (function parameters vararg registers code constants upvalues inner line_from line_to) g worded =
      all_both (constant_floats constants) (all_floats inner) (constants_have_words constants worded.0 worded.2) (have_words inner worded.1 worded.3)

  pub have_words : (fs gs : Functions) → AreWorded fs gs → AllByRecursion HasWord (all_floats fs)
  have_words no_functions gs worded = tt
  have_words (more_functions f fs) gs worded = all_both (floats_of f) (all_floats fs) (has_words f worded.0 worded.2) (have_words fs worded.1 worded.3)

pub are_worded_of : (fs gs : List Function) → AreWordedList fs gs → AreWorded (functions_of fs) (functions_of gs)
are_worded_of [] gs worded = ap functions_of worded
are_worded_of (f ∷ fs) gs worded = (worded.0, functions_of worded.1, worded.2, are_worded_of fs worded.1 worded.3, ap functions_of worded.4)

worded_list_more : (xs ds : List Function) (x d : Function) → AreWordedList xs ds → IsWorded x d → AreWordedList (xs ++ x ∷ []) (ds ++ d ∷ [])
worded_list_more [] ds x d worded is = (d, [], is, refl, ap (λ t. t ++ d ∷ []) worded)
worded_list_more (y ∷ xs) ds x d worded is =
    (worded.0, worded.1 ++ d ∷ [], worded.2, worded_list_more xs worded.1 x d worded.3 is, ap (λ t. t ++ d ∷ []) worded.4)

functions_bytes_more : (fs : List Function) (f : Function) → functions_bytes (functions_of (fs ++ f ∷ [])) ≡ functions_bytes (functions_of fs) ++ function_bytes f
functions_bytes_more [] f = append-nil (function_bytes f)
functions_bytes_more (g ∷ fs) f = ap (λ t. function_bytes g ++ t) (functions_bytes_more fs f) ∙ sym (append_assoc (function_bytes g) (functions_bytes (functions_of fs)) (function_bytes f))

all_floats-append : (fs gs : List Function) → all_floats (functions_of (fs ++ gs)) ≡ all_floats (functions_of fs) ++ all_floats (functions_of gs)
all_floats-append [] gs = refl
all_floats-append (f ∷ fs) gs = ap (λ t. floats_of f ++ t) (all_floats-append fs gs) ∙ sym (append_assoc (floats_of f) (all_floats (functions_of fs)) (all_floats (functions_of gs)))

pub count_of-functions_of : (fs : List Function) → count_of (functions_of fs) ≡ length fs
count_of-functions_of [] = refl
count_of-functions_of (f ∷ fs) = omega (arith, count_of-functions_of fs)

pub count_worded : (fs gs : Functions) → AreWorded fs gs → count_of gs ≡ count_of fs
count_worded no_functions gs worded = ap count_of worded
count_worded (more_functions f fs) gs worded = ap count_of worded.4 ∙ ap (λ n. n + 1) (count_worded fs worded.1 worded.3)

pub functions_more : (fs : List Function) (f : Function) (old mid new : List ℕ) → WritesList fs old mid → WritesFunction f mid new → WritesList (fs ++ f ∷ []) old new
functions_more fs f old mid new before one = record {
  worded = before.worded ++ one.worded ∷ [];
  are_worded = worded_list_more fs before.worded f one.worded before.are_worded one.is_worded;
  appended = one.appended ∙ ap (λ t. t ++ function_bytes one.worded) before.appended ∙ append_assoc old (functions_bytes (functions_of before.worded)) (function_bytes one.worded)
      ∙ ap (λ t. old ++ t) (sym (functions_bytes_more before.worded one.worded));
}

pub functions_done : (fs : List Function) (old new : List ℕ) → WritesList fs old new → WritesFunctions (functions_of fs) old new
functions_done fs old new before = record {
  worded = functions_of before.worded;
  are_worded = are_worded_of fs before.worded before.are_worded;
  appended = before.appended;
}

pub functions_cause : (e : ChunkErr) (fs back : List Function) (f : Function) (old mid : List ℕ) → WritesList fs old mid → HasCause e (floats_of f) → HasCause e (all_floats (functions_of (fs ++ f ∷ back)))
functions_cause e fs back f old mid before cause =
    subst (HasCause e) (sym (all_floats-append fs (f ∷ back))) (cause_within e (all_floats (functions_of fs)) (floats_of f) (all_floats (functions_of back))
    (have_words (functions_of fs) (functions_of before.worded) (are_worded_of fs before.worded before.are_worded)) cause)

-- ---- a function and a chunk

module _ (parameters line_from line_to registers : ℕ) (vararg : Bool) (code : List ℕ) (constants : List Const) (upvalues : List Upval) (inner : Functions) where
  pub parts_written : (n : ℕ) (old s1 s2 s3 s4 s5 s6 new : List ℕ) → n ≡ count_of inner
      → s1 ≡ old ++ head_bytes line_from line_to parameters vararg registers → s2 ≡ s1 ++ list_bytes word_bytes code → WritesConstantList constants s2 s3
      → s4 ≡ s3 ++ list_bytes upvalue_bytes upvalues → s5 ≡ s4 ++ size n → WritesFunctions inner s5 s6 → new ≡ s6 ++ no_debug
      → WritesFunction (function parameters vararg registers code constants upvalues inner line_from line_to) old new
  parts_written n old s1 s2 s3 s4 s5 s6 new count e1 e2 w3 e4 e5 w6 e7 =
      let head = head_bytes line_from line_to parameters vararg registers in
      let words = list_bytes word_bytes code in
      let consts = list_bytes constant_bytes w3.worded in
      let ups = list_bytes upvalue_bytes upvalues in
      let number = size (count_of w6.worded) in
      let within = functions_bytes w6.worded in
      let counted : n ≡ count_of w6.worded = count ∙ sym (count_worded inner w6.worded w6.are_worded) in
      let f2 : s2 ≡ (old ++ head) ++ words = e2 ∙ ap (λ t. t ++ words) e1 in
      let f3 : s3 ≡ ((old ++ head) ++ words) ++ consts = w3.appended ∙ ap (λ t. t ++ consts) f2 in
      let f4 : s4 ≡ (((old ++ head) ++ words) ++ consts) ++ ups = e4 ∙ ap (λ t. t ++ ups) f3 in
      let f5 : s5 ≡ ((((old ++ head) ++ words) ++ consts) ++ ups) ++ number = e5 ∙ ap (λ t. t ++ size n) f4 ∙ ap (λ k. ((((old ++ head) ++ words) ++ consts) ++ ups) ++ size k) counted in
      let f6 : s6 ≡ (((((old ++ head) ++ words) ++ consts) ++ ups) ++ number) ++ within = w6.appended ∙ ap (λ t. t ++ within) f5 in
      record {
        worded = function parameters vararg registers code w3.worded upvalues w6.worded line_from line_to;
        is_worded = (w3.worded, w6.worded, w3.are_worded, w6.are_worded, refl);
        appended = e7 ∙ ap (λ t. t ++ no_debug) f6 ∙ regroup old head words consts ups number within no_debug;
      }
    where
      regroup : (a b c d e f g h : List ℕ) → ((((((a ++ b) ++ c) ++ d) ++ e) ++ f) ++ g) ++ h ≡ a ++ (((((b ++ c) ++ d) ++ e) ++ (f ++ g)) ++ h)
      regroup a b c d e f g h = simp append_assoc

-- the function of a prototype whose lists are lent
pub lent_parts : (p : Proto) (code : List ℕ) (constants : List Const) (upvalues : List Upval) (subs : List Proto) → code ≡ (out-Proto p).code → constants ≡ (out-Proto p).consts
    → upvalues ≡ (out-Proto p).upvals → subs ≡ (out-Proto p).subs
    → function (out-Proto p).numparams (out-Proto p).is_vararg (out-Proto p).maxstack code constants upvalues (functions_of (map function_of subs)) (out-Proto p).line_from (out-Proto p).line_to ≡ function_of p
lent_parts p code constants upvalues subs e1 e2 e3 e4 =
    (λ i. function (out-Proto p).numparams (out-Proto p).is_vararg (out-Proto p).maxstack (e1 i) (e2 i) (e3 i) (functions_of (map function_of (e4 i))) (out-Proto p).line_from (out-Proto p).line_to)
    ∙ sym (function_of_parts p)

pub length_map : {A B : Type 0} (f : A → B) (xs : List A) → length (map f xs) ≡ length xs
length_map f [] = refl
length_map f (x ∷ xs) = ap suc (length_map f xs)

-- the constants of a function come first
pub constants_first : (e : ChunkErr) (constants : List Const) (inner : Functions) → HasCause e (constant_floats constants) → HasCause e (constant_floats constants ++ all_floats inner)
constants_first (FloatReach s) constants inner first = first_before (constant_floats constants) (all_floats inner) s first
constants_first Memory constants inner cause = tt

pub functions_last : (e : ChunkErr) (constants : List Const) (inner : Functions) (old new : List ℕ) → WritesConstantList constants old new → HasCause e (all_floats inner) → HasCause e (constant_floats constants ++ all_floats inner)
functions_last (FloatReach s) constants inner old new w first = first_after (constant_floats constants) (all_floats inner) s (constants_have_words constants w.worded w.are_worded) first
functions_last Memory constants inner old new w cause = tt

upvalues_kept : (f g : Function) → IsWorded f g → upvalue_count g ≡ upvalue_count f
upvalues_kept (function parameters vararg registers code constants upvalues inner line_from line_to) g worded = ap upvalue_count worded.4

pub chunk_written : {E : Type 0} (r : Result (Unit {0}) E) (f : Function) (n : ℕ) (old mid start new : List ℕ) → mid ≡ old ++ header → start ≡ mid ++ n ∷ [] → n ≡ upvalue_count f
    → OnOk r (WritesFunction f start new) → OnOk r ((worded : Function) × IsWorded f worded × (new ≡ old ++ chunk_bytes worded))
chunk_written (Ok u) f n old mid start new e1 e2 e3 w = (
  w.worded,
  w.is_worded,
  w.appended ∙ ap (λ t. t ++ function_bytes w.worded) (e2 ∙ ap (λ t. t ++ n ∷ []) e1) ∙ ap (λ k. ((old ++ header) ++ k ∷ []) ++ function_bytes w.worded) (e3 ∙ sym (upvalues_kept f w.worded w.is_worded))
      ∙ regroup old header (upvalue_count w.worded ∷ []) (function_bytes w.worded),
)
  where
    regroup : (a b c d : List ℕ) → ((a ++ b) ++ c) ++ d ≡ a ++ ((b ++ c) ++ d)
    regroup a b c d = simp append_assoc
chunk_written (Err e) f n old mid start new e1 e2 e3 w = tt

-- ---- what is kept

pub kept_five : (old s1 s2 s3 s4 s5 s6 a b c d e : List ℕ) → s1 ≡ old ++ a → s2 ≡ s1 ++ b → s3 ≡ s2 ++ c → s4 ≡ s3 ++ d → s5 ≡ s4 ++ e → take (length s5) s6 ≡ s5 → take (length old) s6 ≡ old
kept_five old s1 s2 s3 s4 s5 s6 a b c d e e1 e2 e3 e4 e5 kept =
    kept_through old s5 s6 (kept_more old s4 s5 e (kept_more old s3 s4 d (kept_more old s2 s3 c (kept_more old s1 s2 b (kept_front old s1 a e1) e2) e3) e4) e5) kept

map_more : {A B : Type 0} (f : A → B) (xs ys : List A) → map f (xs ++ ys) ≡ map f xs ++ map f ys
map_more f [] ys = refl
map_more f (x ∷ xs) ys = ap (λ t. f x ∷ t) (map_more f xs ys)

take_all : {A : Type 0} (xs : List A) (i : ℕ) → length xs ≤ i → take i xs ≡ xs
take_all [] zero done = refl
take_all [] (suc i) done = refl
take_all (x ∷ xs) zero done = absurd (omega arith)
take_all (x ∷ xs) (suc i) done = ap (λ t. x ∷ t) (take_all xs i (omega arith))

pub subs_more : (subs : List Proto) (i : ℕ) (p : Proto) (old mid new : List ℕ) → i < length subs → p ≡ get_or subs i p → WritesList (map function_of (take i subs)) old mid
    → WritesFunction (function_of p) mid new → WritesList (map function_of (take (suc i) subs)) old new
subs_more subs i p old mid new within is before one =
    subst (λ fs. WritesList fs old new) (sym (ap (map function_of) (take_item subs i p within is) ∙ map_more function_of (take i subs) (p ∷ [])))
    (functions_more (map function_of (take i subs)) (function_of p) old mid new before one)

pub subs_done : (subs : List Proto) (i : ℕ) (old new : List ℕ) → length subs ≤ i → WritesList (map function_of (take i subs)) old new → WritesFunctions (functions_of (map function_of subs)) old new
subs_done subs i old new done before =
    functions_done (map function_of subs) old new (subst (λ ps. WritesList (map function_of ps) old new) (take_all subs i done) before)

pub subs_cause : (e : ChunkErr) (subs : List Proto) (i : ℕ) (p : Proto) (old mid : List ℕ) → i < length subs → p ≡ get_or subs i p → WritesList (map function_of (take i subs)) old mid
    → HasCause e (floats_of (function_of p)) → HasCause e (all_floats (functions_of (map function_of subs)))
subs_cause e subs i p old mid within is before cause =
    subst (λ fs. HasCause e (all_floats (functions_of fs))) (sym (ap (map function_of) (split_item subs i p within is) ∙ map_more function_of (take i subs) (p ∷ drop (suc i) subs)))
    (functions_cause e (map function_of (take i subs)) (map function_of (drop (suc i) subs)) (function_of p) old mid before cause)
