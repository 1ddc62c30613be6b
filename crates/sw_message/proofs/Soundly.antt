-- The test of what was learnt says that it is sound, and a put or a delete of a stamp that was not learnt passes.
use Rattle.std.proofs.Common.{◌≡◌, ◌≢◌, ⊎_elim, ℕ, zero, suc, ◌<◌, Bool, true, false, cond, Contains, List, [], ◌∷◌, ◌++◌, length, Option, Some, None, append-nil, refl, sym, ap, subst, ◌∙◌, lit<, arith}
use Rattle.std.specs.Prelude.{is_none}
use Rattle.std.specs.List.{AllPairs, list_all}
use Rattle.std.proofs.lemmas.Bool.{and_parts, le-leb, leb-true, lt-ltb, ltb-true}
use Rattle.std.proofs.lemmas.List.{append_assoc, map-append}
use Rattle.std.proofs.lemmas.List.Elements.{Contains-push_cases}
use Rattle.md5.specs.Md5.{md5}
use Rattle.sw_words.specs.Bytes.{IsBytes}
use Rattle.sw_types.specs.Head.{head_fault}
use Rattle.sw_types.specs.Name.{name_fault}
use Rattle.sw_types.specs.Object.{IsObject, ObjectModel, greatest_body}
use Rattle.sw_types.specs.Policy.{PolicyModel, policy_fault}
use Rattle.sw_types.specs.Stamp.{greatest_stamp}
use Rattle.sw_types.proofs.Names.{pointwise-same, pointwise-true}
use Rattle.sw_archive.specs.Put.{IsPut}
use Rattle.sw_diskfile.proofs.Lists.{Contains-map}
use Rattle.sw_ring.specs.Cluster.{ClusterModel}
use Rattle.sw_message.specs.Learnt.{Booked, IsSoundLearnt, Learnt, Marked}
use Rattle.sw_message.specs.Running.{TellsSoundly}
use Rattle.sw_message.specs.Soundly.{are_distinct, is_byte, is_object, is_put, is_sound_learnt, stamps_of, stamps_of_book, stamps_of_marks, told_soundly}
use Rattle.sw_message.proofs.Distinct.{all_contained, all_of, contained_all, distinct-apart, distinct-more, distinct-one, distinct-right, pairs-distinct}

none-true : {A : Type 0} (option : Option A) → is_none option ≡ true → option ≡ None
none-true None is = refl
none-true (Some value) is = absurd (cc)

true-none : {A : Type 0} (option : Option A) → option ≡ None → is_none option ≡ true
true-none option is = ap is_none is

-- ---- objects and puts

bytes-true : (bytes : List ℕ) → list_all is_byte bytes ≡ true → IsBytes bytes
bytes-true [] all position = lit< tt
bytes-true (byte ∷ bytes) all zero = ltb-true byte 256 (and_parts (is_byte byte) (list_all is_byte bytes) all).0
bytes-true (byte ∷ bytes) all (suc position) = bytes-true bytes (and_parts (is_byte byte) (list_all is_byte bytes) all).1 position

true-bytes : (bytes : List ℕ) → IsBytes bytes → list_all is_byte bytes ≡ true
true-bytes [] are = refl
true-bytes (byte ∷ bytes) are = all_of (is_byte byte) (list_all is_byte bytes) (lt-ltb byte 256 (are 0)) (true-bytes bytes (λ position. are (suc position)))

module _ (object : ObjectModel) where
  object-true : is_object object ≡ true → IsObject object
  unfolding is_object
  object-true is =
      let head = and_parts _ _ is in
      let size = and_parts _ _ head.1 in
      let bytes = and_parts _ _ size.1 in
      record {
        head = none-true (head_fault object.head) head.0;
        size = leb-true (length object.body) greatest_body size.0;
        bytes = bytes-true object.body bytes.0;
        body_md5 = pointwise-true object.body_md5 (md5 object.body) bytes.1;
      }

  true-object : IsObject object → is_object object ≡ true
  unfolding is_object
  true-object is = all_of _ _ (true-none (head_fault object.head) is.head)
      (all_of _ _ (le-leb (length object.body) greatest_body is.size)
      (all_of _ _ (true-bytes object.body is.bytes) (rw is.body_md5 (pointwise-same (md5 object.body)))))

module _ (policy : PolicyModel) (booked : Booked) where
  put-true : is_put policy booked ≡ true → IsPut policy booked.stamp booked.name booked.object
  unfolding is_put
  put-true is =
      let rules = and_parts _ _ is in
      let stamp = and_parts _ _ rules.1 in
      let name = and_parts _ _ stamp.1 in
      record {
        policy_rules = none-true (policy_fault policy) rules.0;
        stamp_bound = leb-true booked.stamp greatest_stamp stamp.0;
        name_rules = none-true (name_fault booked.name) name.0;
        object_rules = object-true booked.object name.1;
      }

  true-put : IsPut policy booked.stamp booked.name booked.object → is_put policy booked ≡ true
  unfolding is_put
  true-put is = all_of _ _ (true-none (policy_fault policy) is.policy_rules)
      (all_of _ _ (le-leb booked.stamp greatest_stamp is.stamp_bound)
      (all_of _ _ (true-none (name_fault booked.name) is.name_rules) (true-object booked.object is.object_rules)))

-- ---- what was learnt

module _ (policy : PolicyModel) where
  -- what passes is sound
  pub learnt-sound : (learnt : Learnt) → is_sound_learnt policy learnt ≡ true → IsSoundLearnt policy learnt
  learnt-sound learnt is =
      let parts = and_parts (list_all (is_put policy) learnt.book) (are_distinct (stamps_of learnt)) is in
      let books = stamps_of_book learnt.book in
      let marks = stamps_of_marks learnt.marks in
      record {
        book = record {
          puts = λ booked has. put-true policy booked (all_contained (is_put policy) learnt.book parts.0 booked has);
          one = distinct-one (λ (booked : Booked). booked.stamp) learnt.book marks parts.1;
        };
        one_mark = distinct-one (λ (marked : Marked). marked.stamp) learnt.marks [] (subst (λ numbers. are_distinct numbers ≡ true) (sym (append-nil marks)) (distinct-right books marks parts.1));
        apart = λ booked marked has also. distinct-apart books marks parts.1 booked.stamp marked.stamp
            (Contains-map (λ (one : Booked). one.stamp) learnt.book booked has) (Contains-map (λ (one : Marked). one.stamp) learnt.marks marked also);
      }

  -- what is sound passes, where nothing is there twice
  pub sound-learnt : (learnt : Learnt) → ((booked : Booked) → Contains learnt.book booked → IsPut policy booked.stamp booked.name booked.object) → AllPairs (λ n m. n ≢ m) (stamps_of learnt) → is_sound_learnt policy learnt ≡ true
  sound-learnt learnt puts apart = all_of _ _ (contained_all (is_put policy) learnt.book (λ booked has. true-put policy booked (puts booked has))) (pairs-distinct (stamps_of learnt) apart)

  module _ (learnt : Learnt) (is : is_sound_learnt policy learnt ≡ true) where
    passed : (list_all (is_put policy) learnt.book ≡ true) × (are_distinct (stamps_of learnt) ≡ true)
    passed = and_parts (list_all (is_put policy) learnt.book) (are_distinct (stamps_of learnt)) is

    below : (stamp : ℕ) → ((n : ℕ) → Contains (stamps_of learnt) n → n < stamp) → (n : ℕ) → Contains (stamps_of learnt) n → n ≢ stamp
    below stamp before n has = λ same. let less = before n has in absurd (omega (arith, less, same))

    -- with one put more, of a later stamp, it passes still
    pub learnt-more_puts : (booked : Booked) → IsPut policy booked.stamp booked.name booked.object → ((n : ℕ) → Contains (stamps_of learnt) n → n < booked.stamp)
        → is_sound_learnt policy (record learnt { book = learnt.book ++ booked ∷ [] }) ≡ true
    learnt-more_puts booked put before =
        let books = stamps_of_book learnt.book in
        let marks = stamps_of_marks learnt.marks in
        let stamps : stamps_of_book (learnt.book ++ booked ∷ []) ++ marks ≡ books ++ booked.stamp ∷ marks = ap (λ numbers. numbers ++ marks) (map-append (λ (one : Booked). one.stamp) learnt.book (booked ∷ [])) ∙ append_assoc books (booked.stamp ∷ []) marks in
        all_of _ _ (contained_all (is_put policy) (learnt.book ++ booked ∷ []) (λ one has. ⊎_elim (λ there. all_contained (is_put policy) learnt.book passed.0 one there)
        (λ here. subst (λ it. is_put policy it ≡ true) here (true-put policy booked put)) (Contains-push_cases learnt.book booked one has)))
        (subst (λ numbers. are_distinct numbers ≡ true) (sym stamps) (distinct-more books marks booked.stamp passed.1 (below booked.stamp before)))

    -- likewise with one delete more
    pub learnt-more_deletes : (marked : Marked) → ((n : ℕ) → Contains (stamps_of learnt) n → n < marked.stamp) → is_sound_learnt policy (record learnt { marks = learnt.marks ++ marked ∷ [] }) ≡ true
    learnt-more_deletes marked before =
        let all = stamps_of learnt in
        let marks = stamps_of_marks learnt.marks in
        let stamps : stamps_of_book learnt.book ++ stamps_of_marks (learnt.marks ++ marked ∷ []) ≡ all ++ marked.stamp ∷ [] = ap (λ numbers. stamps_of_book learnt.book ++ numbers) (map-append (λ (one : Marked). one.stamp) learnt.marks (marked ∷ [])) ∙ sym (append_assoc (stamps_of_book learnt.book) marks (marked.stamp ∷ [])) in
        all_of _ _ passed.0 (subst (λ numbers. are_distinct numbers ≡ true) (sym stamps) (distinct-more all [] marked.stamp (subst (λ numbers. are_distinct numbers ≡ true) (sym (append-nil all)) passed.1)
        (λ n has. below marked.stamp before n (subst (λ numbers. Contains numbers n) (append-nil all) has))))

-- what is told by the test is sound
pub told-sound : (cluster : ClusterModel) (learnt : Learnt) → TellsSoundly (Some cluster) (told_soundly cluster.policy learnt)
told-sound cluster learnt = by_test (is_sound_learnt cluster.policy learnt) refl
  where
    by_test : (b : Bool) → is_sound_learnt cluster.policy learnt ≡ b → TellsSoundly (Some cluster) (cond b (Some learnt) None)
    by_test true is = learnt-sound cluster.policy learnt is
    by_test false is = tt

-- what passes is told
pub told-passed : (policy : PolicyModel) (learnt : Learnt) → is_sound_learnt policy learnt ≡ true → told_soundly policy learnt ≡ Some learnt
told-passed policy learnt is = rw is refl
