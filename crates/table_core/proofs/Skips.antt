-- Inputs from which the first bytes of a mark were taken, one after another.
use Rattle.std.proofs.Common.{◌≡◌, ◌≢◌, ◌==◌, ◌∙◌, ℕ, List, [], ◌∷◌, Option, None, Some, IfSome}
use Rattle.std.proofs.Common.{take, option_map, Bool, true, false, Result, Ok, Err, refl, ap, sym}
use Rattle.std.proofs.Common.{ne_eqb}
use Rattle.std.proofs.lemmas.Bool.{false≢true}
use Rattle.std.specs.Fmt.{option_append}
use Rattle.std.specs.Io.KnownBytes.{Consumes, Keeps, prepend_known}
use Rattle.std.proofs.KnownBytes.{Consumes-nil, Consumes-trans, Consumes-kept}
use Rattle.csv.specs.Reading.{strip_bom}
use Rattle.table_core.specs.Marks.{mark, TakesOfMark, TakesPart}

-- ---- after reads that were interrupted

pub then_consumed : (old mid new : Option (List ℕ)) (bytes : List ℕ) → Keeps old mid
    → Consumes mid new bytes → Consumes old new bytes
then_consumed None mid new bytes kept taken = tt
then_consumed (Some xs) None new bytes kept taken = absurd kept
then_consumed (Some xs) (Some ys) None bytes kept taken = absurd taken
then_consumed (Some xs) (Some ys) (Some zs) bytes kept taken = sym kept ∙ taken

pub then_other : (old mid : Option (List ℕ)) (byte : ℕ) → Keeps old mid
    → IfSome mid (λ bytes. take 1 bytes ≢ byte ∷ [])
    → IfSome old (λ bytes. take 1 bytes ≢ byte ∷ [])
then_other None mid byte kept other = tt
then_other (Some xs) None byte kept other = absurd kept
then_other (Some xs) (Some ys) byte kept other = λ e. other (ap (take 1) kept ∙ e)

abbrev of_ok : {E : Type 0} → Result Bool E → Bool
of_ok (Ok found) = found
of_ok (Err e) = false

pub not_found : {E : Type 0} (r : Result Bool E) (found : Bool) → r ≡ Ok found → found ≡ false
    → r ≢ Ok true
not_found r found was is_false = λ e. false≢true (sym is_false ∙ ap of_ok (sym was ∙ e))

-- ---- bytes with no mark at their start

first_differs : (xs : List ℕ) → take 1 xs ≢ 0xEF ∷ [] → strip_bom xs ≡ xs
unfolding strip_bom
first_differs [] other = refl
first_differs (a ∷ []) other = refl
first_differs (a ∷ b ∷ []) other = refl
first_differs (a ∷ b ∷ c ∷ rest) other =
    let differs : (a == 0xEF) ≡ false = ne_eqb a 0xEF (λ e. other (ap (λ x. x ∷ []) e)) in
    rw differs refl

second_differs : (xs : List ℕ) → take 1 xs ≢ 0xBB ∷ [] → strip_bom (0xEF ∷ xs) ≡ 0xEF ∷ xs
unfolding strip_bom
second_differs [] other = refl
second_differs (b ∷ []) other = refl
second_differs (b ∷ c ∷ rest) other =
    let differs : (b == 0xBB) ≡ false = ne_eqb b 0xBB (λ e. other (ap (λ x. x ∷ []) e)) in
    rw differs refl

third_differs : (xs : List ℕ) → take 1 xs ≢ 0xBF ∷ []
    → strip_bom (0xEF ∷ 0xBB ∷ xs) ≡ 0xEF ∷ 0xBB ∷ xs
unfolding strip_bom
third_differs [] other = refl
third_differs (c ∷ rest) other =
    let differs : (c == 0xBF) ≡ false = ne_eqb c 0xBF (λ e. other (ap (λ x. x ∷ []) e)) in
    rw differs refl

after_mark : (xs : List ℕ) → xs ≡ strip_bom (0xEF ∷ 0xBB ∷ 0xBF ∷ xs)
unfolding strip_bom
after_mark xs = refl

-- ---- the bytes given back and those left

pub none_of_mark : (old new : Option (List ℕ)) → Keeps old new
    → IfSome old (λ bytes. take 1 bytes ≢ 0xEF ∷ [])
    → Keeps (option_map strip_bom old) (prepend_known [] new)
none_of_mark None new kept other = tt
none_of_mark (Some xs) None kept other = absurd kept
none_of_mark (Some xs) (Some ys) kept other = kept ∙ sym (first_differs xs other)

pub one_of_mark : (old one new : Option (List ℕ)) → Consumes old one (0xEF ∷ [])
    → Keeps one new → IfSome one (λ bytes. take 1 bytes ≢ 0xBB ∷ [])
    → Keeps (option_map strip_bom old) (prepend_known (0xEF ∷ []) new)
one_of_mark None one new first kept other = tt
one_of_mark (Some xs) None new first kept other = absurd first
one_of_mark (Some xs) (Some ys) None first kept other = absurd kept
one_of_mark (Some xs) (Some ys) (Some zs) first kept other =
    ap (λ l. 0xEF ∷ l) kept ∙ sym (second_differs ys other) ∙ ap strip_bom (sym first)

pub two_of_mark : (old one two new : Option (List ℕ)) → Consumes old one (0xEF ∷ [])
    → Consumes one two (0xBB ∷ []) → Keeps two new
    → IfSome two (λ bytes. take 1 bytes ≢ 0xBF ∷ [])
    → Keeps (option_map strip_bom old) (prepend_known (0xEF ∷ 0xBB ∷ []) new)
two_of_mark None one two new first second kept other = tt
two_of_mark (Some xs) None two new first second kept other = absurd first
two_of_mark (Some xs) (Some ys) None new first second kept other = absurd second
two_of_mark (Some xs) (Some ys) (Some zs) None first second kept other = absurd kept
two_of_mark (Some xs) (Some ys) (Some zs) (Some ws) first second kept other =
    ap (λ l. 0xEF ∷ 0xBB ∷ l) kept ∙ sym (third_differs zs other)
    ∙ ap (λ l. strip_bom (0xEF ∷ l)) (sym second) ∙ ap strip_bom (sym first)

pub whole_mark : (old one two new : Option (List ℕ)) → Consumes old one (0xEF ∷ [])
    → Consumes one two (0xBB ∷ []) → Consumes two new (0xBF ∷ [])
    → Keeps (option_map strip_bom old) (prepend_known [] new)
whole_mark None one two new first second third = tt
whole_mark (Some xs) None two new first second third = absurd first
whole_mark (Some xs) (Some ys) None new first second third = absurd second
whole_mark (Some xs) (Some ys) (Some zs) None first second third = absurd third
whole_mark (Some xs) (Some ys) (Some zs) (Some ws) first second third =
    after_mark ws ∙ ap (λ l. strip_bom (0xEF ∷ 0xBB ∷ l)) (sym third)
    ∙ ap (λ l. strip_bom (0xEF ∷ l)) (sym second) ∙ ap strip_bom (sym first)

-- ---- the bytes that were taken

two_bytes : (old one two : Option (List ℕ)) → Consumes old one (0xEF ∷ [])
    → Consumes one two (0xBB ∷ []) → Consumes old two (0xEF ∷ 0xBB ∷ [])
two_bytes old one two = Consumes-trans old one two (0xEF ∷ []) (0xBB ∷ [])

pub takes_none : (old new : Option (List ℕ)) → Keeps old new → TakesOfMark old new []
unfolding strip_bom
takes_none old new kept =
    record {
      count = 0;
      taken = Consumes-kept old old new [] (Consumes-nil old) kept;
      given_back = refl;
    }

pub takes_one : (old one new : Option (List ℕ)) → Consumes old one (0xEF ∷ []) → Keeps one new
    → TakesOfMark old new (0xEF ∷ [])
unfolding strip_bom
takes_one old one new first kept =
    record {
      count = 1;
      taken = Consumes-kept old one new (0xEF ∷ []) first kept;
      given_back = refl;
    }

pub takes_two : (old one two new : Option (List ℕ)) → Consumes old one (0xEF ∷ [])
    → Consumes one two (0xBB ∷ []) → Keeps two new → TakesOfMark old new (0xEF ∷ 0xBB ∷ [])
unfolding strip_bom
takes_two old one two new first second kept =
    record {
      count = 2;
      taken = Consumes-kept old two new (0xEF ∷ 0xBB ∷ []) (two_bytes old one two first second)
          kept;
      given_back = refl;
    }

pub takes_whole : (old one two new : Option (List ℕ)) → Consumes old one (0xEF ∷ [])
    → Consumes one two (0xBB ∷ []) → Consumes two new (0xBF ∷ []) → TakesOfMark old new []
unfolding strip_bom
takes_whole old one two new first second third =
    record {
      count = 3;
      taken = Consumes-trans old two new (0xEF ∷ 0xBB ∷ []) (0xBF ∷ [])
          (two_bytes old one two first second) third;
      given_back = refl;
    }

-- ---- before the rest of the reader

pub chained : (old new whole : Option (List ℕ)) (bytes : List ℕ)
    → Keeps old (prepend_known bytes new) → whole ≡ option_append (Some bytes) new
    → Keeps old whole
chained None new whole bytes kept is = tt
chained (Some xs) None whole bytes kept is = absurd kept
chained (Some xs) (Some ys) whole bytes kept is = rw is kept
