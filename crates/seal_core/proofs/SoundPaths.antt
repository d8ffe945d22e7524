-- If one head is computed from two leaves, they are the same leaf or there is a collision.
use Rattle.std.proofs.Common.{◌≡◌, ◌≢◌, ◌∙◌, ℕ, suc, ◌-◌, ◌<◌, refl, ap, sym, ◌⊎◌, inl, inr}
use Rattle.std.proofs.Common.{List, [], ◌∷◌, length, Bool, true, false, Option, Some, None}
use Rattle.std.proofs.Common.{option_map, cond, arith}
use Rattle.std.specs.Prelude.{reverse, nat_lt}
use Rattle.std.proofs.lemmas.Option.{same_Some, none-some}
use Rattle.std.proofs.lemmas.List.{get_or-reverse, length-reverse}
use Rattle.sha2.proofs.Facts256.{length-sha256}
use Rattle.seal_core.specs.Hashes.{leaf_hash, node_hash, AreHashes, Collision}
use Rattle.seal_core.specs.Paths.{head_along, sides_within, root_from}
use Rattle.seal_core.proofs.Collisions.{collision, same_children}

mapped : (f : List ℕ → List ℕ) (o : Option (List ℕ)) (y : List ℕ) → option_map f o ≡ Some y
    → (x : List ℕ) × (o ≡ Some x) × (f x ≡ y)
mapped f None y is = absurd (none-some y is)
mapped f (Some x) y is = (x, refl, same_Some (f x) y is)

first_of : (x : List ℕ) (xs : List (List ℕ)) → AreHashes (x ∷ xs) → length x ≡ 32
first_of x xs all = all 0 x (omega arith)

rest_of : (x : List ℕ) (xs : List (List ℕ)) → AreHashes (x ∷ xs) → AreHashes xs
rest_of x xs all = λ k d lt. all (suc k) d (omega arith)

AreHashes-reverse : (xs : List (List ℕ)) → AreHashes xs → AreHashes (reverse xs)
AreHashes-reverse xs all = λ k d lt.
    let within : k < length xs = omega (arith, length-reverse xs) in
    ap length (get_or-reverse xs k d within) ∙ all (length xs - 1 - k) d (omega arith)

-- The head that is computed is a hash.
length-head_along : (sides : List Bool) (hash : List ℕ) (siblings : List (List ℕ)) (head : List ℕ)
    → length hash ≡ 32 → head_along sides hash siblings ≡ Some head → length head ≡ 32
unfolding head_along
length-head_along [] hash [] head size is = ap length (sym (same_Some hash head is)) ∙ size
length-head_along [] hash (s ∷ ss) head size is = absurd (none-some head is)
length-head_along (true ∷ sides) hash [] head size is = absurd (none-some head is)
length-head_along (false ∷ sides) hash [] head size is = absurd (none-some head is)
length-head_along (true ∷ sides) hash (s ∷ ss) head size is =
    let (l, was, node) = mapped (λ l. node_hash l s) (head_along sides hash ss) head is in
    ap length (sym node) ∙ length-sha256 _
length-head_along (false ∷ sides) hash (s ∷ ss) head size is =
    let (r, was, node) = mapped (λ r. node_hash s r) (head_along sides hash ss) head is in
    ap length (sym node) ∙ length-sha256 _

-- One head that is computed from two hashes along the same sides.
same_along : (sides : List Bool) (h k : List ℕ) (ss ts : List (List ℕ)) (head : List ℕ)
    → length h ≡ 32 → length k ≡ 32 → AreHashes ss → AreHashes ts
    → head_along sides h ss ≡ Some head → head_along sides k ts ≡ Some head → (h ≡ k) ⊎ Collision
unfolding head_along
same_along [] h k [] [] head sh sk each_s each_t first second =
    inl (same_Some h head first ∙ sym (same_Some k head second))
same_along [] h k (s ∷ ss) ts head sh sk each_s each_t first second = absurd (none-some head first)
same_along [] h k [] (t ∷ ts) head sh sk each_s each_t first second = absurd (none-some head second)
same_along (true ∷ sides) h k [] ts head sh sk each_s each_t first second =
    absurd (none-some head first)
same_along (false ∷ sides) h k [] ts head sh sk each_s each_t first second =
    absurd (none-some head first)
same_along (true ∷ sides) h k (s ∷ ss) [] head sh sk each_s each_t first second =
    absurd (none-some head second)
same_along (false ∷ sides) h k (s ∷ ss) [] head sh sk each_s each_t first second =
    absurd (none-some head second)
same_along (true ∷ sides) h k (s ∷ ss) (t ∷ ts) head sh sk each_s each_t first second =
    let (l, was_l, node_l) = mapped (λ l. node_hash l s) (head_along sides h ss) head first in
    let (m, was_m, node_m) = mapped (λ m. node_hash m t) (head_along sides k ts) head second in
    let size : length l ≡ length m =
    length-head_along sides h ss l sh was_l ∙ sym (length-head_along sides k ts m sk was_m) in
    elim (same_children l s m t size (node_l ∙ sym node_m)) [
      | inl (same_left, same_right) ↦
          same_along sides h k ss ts l sh sk (rest_of s ss each_s) (rest_of t ts each_t) was_l
          (was_m ∙ ap Some (sym same_left))
      | inr found ↦ inr found
    ]
same_along (false ∷ sides) h k (s ∷ ss) (t ∷ ts) head sh sk each_s each_t first second =
    let (r, was_r, node_r) = mapped (λ r. node_hash s r) (head_along sides h ss) head first in
    let (m, was_m, node_m) = mapped (λ m. node_hash t m) (head_along sides k ts) head second in
    let size : length s ≡ length t = first_of s ss each_s ∙ sym (first_of t ts each_t) in
    elim (same_children s r t m size (node_r ∙ sym node_m)) [
      | inl (same_left, same_right) ↦
          same_along sides h k ss ts r sh sk (rest_of s ss each_s) (rest_of t ts each_t) was_r
          (was_m ∙ ap Some (sym same_right))
      | inr found ↦ inr found
    ]

chosen : (b : Bool) (o : Option (List ℕ)) (head : List ℕ) → cond b o None ≡ Some head
    → o ≡ Some head
chosen true o head is = is
chosen false o head is = absurd (none-some head is)

along_of : (i n : ℕ) (hash : List ℕ) (path : List (List ℕ)) (head : List ℕ)
    → root_from hash i n path ≡ Some head
    → head_along (sides_within n i n) hash (reverse path) ≡ Some head
along_of i n hash path head is =
    chosen (nat_lt i n) (head_along (sides_within n i n) hash (reverse path)) head is

-- One head that is computed from two different leaves at the same place.
pub leaves_collide : (x y : List ℕ) (i n : ℕ) (p q : List (List ℕ)) (head : List ℕ)
    → AreHashes p → AreHashes q → root_from (leaf_hash x) i n p ≡ Some head
    → root_from (leaf_hash y) i n q ≡ Some head → x ≢ y → Collision
leaves_collide x y i n p q head of_p of_q first second differ =
    let along_p = along_of i n (leaf_hash x) p head first in
    let along_q = along_of i n (leaf_hash y) q head second in
    elim (same_along (sides_within n i n) (leaf_hash x) (leaf_hash y) (reverse p) (reverse q) head
    (length-sha256 _) (length-sha256 _) (AreHashes-reverse p of_p) (AreHashes-reverse q of_q)
    along_p along_q) [
      | inl same ↦ collision (0 ∷ x) (0 ∷ y) (λ equal. differ cc) same
      | inr found ↦ found
    ]
