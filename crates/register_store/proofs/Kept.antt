-- How the rows of a register in memory change.
use Rattle.std.proofs.Common.{◌≡◌, ◌≢◌, ◌↔◌, ◌&&◌, ℕ, ℤ, nat_abs, Bool, true, false, true≢false}
use Rattle.std.proofs.Common.{List, [], ◌∷◌, ◌++◌, map, reverse, get_or, Option, Some, None, Vec}
use Rattle.std.proofs.Common.{String, string_bytes, MatchOption, Result, Ok, Err, IfErr, OnErr, ◌⊎◌}
use Rattle.std.proofs.Common.{inl, refl, sym, subst, ap, ◌∙◌, arith}
use Rattle.std.specs.declared.alloc.Global.{Global}
use Rattle.std.specs.Bool.{Decides}
use Rattle.std.proofs.lemmas.Bool.{and_parts}
use Rattle.std.proofs.lemmas.Bool.Decides.{not_from_Decides}
use Rattle.std.proofs.lemmas.List.{reverse-append, map-append}
use Rattle.std.specs.List.Sorted.{IsPermutation, IsNonDecreasingBy}
use Rattle.std.proofs.lemmas.List.Sorted.{IsPermutation-refl, IsPermutation-sym}
use Rattle.std.proofs.lemmas.List.Sorted.{IsPermutation-trans, IsPermutation-cons}
use Rattle.std.proofs.lemmas.List.Sorted.{IsPermutation-append_right, IsPermutation-reverse}
use Rattle.std.proofs.lemmas.List.Sorted.{IsPermutation-map as map-IsPermutation}
use Rattle.std.proofs.lemmas.List.Sorted.{length_permutation}
use Rattle.sqlite_keyed.proofs.ListLemmas.{map_back, map-map}
use Rattle.nest_core.specs.Museum.{Museum}
use Rattle.nest_core.specs.SetupTexts.{setup_rows}
use Rattle.posting_core.specs.declared.entry.Entry.{Entry}
use Rattle.posting_core.specs.declared.entry.Changes.{Changes}
use Rattle.posting_core.specs.declared.entry.NewLine.{NewLine}
use Rattle.posting_core.specs.declared.entry.NewSpot.{NewSpot}
use Rattle.posting_core.specs.declared.stage.LineStage.{LineStage}
use Rattle.posting_core.specs.declared.stage.LineStage.TheVariants.{Awaiting, Away, Back, Here}
use Rattle.posting_core.specs.declared.stage.LineStage.TheVariants.{GivenBack}
use Rattle.posting_core.specs.StageNumbers.{stage_number}
use Rattle.register_store.specs.declared.loan_rows.LineKey.{LineKey}
use Rattle.register_store.specs.declared.kept_entry.KeptEntry.{KeptEntry}
use Rattle.register_store.specs.declared.store_fault.StoreFault.{StoreFault}
use Rattle.register_store.specs.declared.store_fault.StoreFault.TheVariants.{NoMemory, Store}
use Rattle.register_store.specs.declared.store_fault.StoreFault.TheVariants.{OtherSetup, Damaged}
use Rattle.register_store.specs.declared.store_fault.StoreFault.TheVariants.{OtherVersion}
use Rattle.register_store.specs.StoredRows.{Content, MetaRow, PostingRow, SpotRow, LineRow, TermRow}
use Rattle.register_store.specs.StoredRows.{AreSame, HasRows, numbered, rows_of_setup, rows_of_meta}
use Rattle.register_store.specs.StoredRows.{IsBoundTo, spot_row, line_row, spots_by_thing}
use Rattle.register_store.specs.StoredRows.{lines_by_loan, rows_of_spots, rows_of_lines}
use Rattle.register_store.specs.StoredRows.{rows_of_terms, is_same_line, put_each, term_of}
use Rattle.register_store.specs.StoredRows.{with_posted}
use Rattle.register_store.specs.Registers.{is_new, bound_by, bound_to, IsBindFault, IsWrongAt}
use Rattle.register_store.specs.Registers.{IsListFault}
use Rattle.register_store.specs.Holdings.{Each, Comes}
use Rattle.register_store.specs.Plain.{rows_in_memory, texts_of, meta_of, kept_row, has_same_key}
use Rattle.register_store.specs.Plain.{held_lines, term_rows}
use Rattle.register_store.proofs.OneList.{one_setup}
use Rattle.register_store.proofs.SpotRows.{looking_back}
use Rattle.register_store.proofs.ListedRows.{in_order}
use Rattle.register_store.proofs.PutRows.{put_each_same, put_mapped}
use Rattle.register_store.proofs.LineRows.{keyed_rows}
use Rattle.register_store.proofs.TermRows.{with_term, with_term_same}

pub same_itself : (c : Content) → AreSame c c
same_itself c = record {
  setup = IsPermutation-refl c.setup;
  meta = IsPermutation-refl c.meta;
  postings = IsPermutation-refl c.postings;
  spots = IsPermutation-refl c.spots;
  lines =
      IsPermutation-refl c.lines;
  terms = IsPermutation-refl c.terms;
}

pub same_back : (c d : Content) → AreSame c d → AreSame d c
same_back c d h = record {
  setup = IsPermutation-sym _ _ h.setup;
  meta = IsPermutation-sym _ _ h.meta;
  postings = IsPermutation-sym _ _ h.postings;
  spots =
      IsPermutation-sym _ _ h.spots;
  lines = IsPermutation-sym _ _ h.lines;
  terms =
      IsPermutation-sym _ _ h.terms;
}

pub same_then : (c d e : Content) → AreSame c d → AreSame d e → AreSame c e
same_then c d e h k = record {
  setup = IsPermutation-trans _ _ _ h.setup k.setup;
  meta = IsPermutation-trans _ _ _ h.meta k.meta;
  postings = IsPermutation-trans _ _ _ h.postings k.postings;
  spots = IsPermutation-trans _ _ _ h.spots k.spots;
  lines = IsPermutation-trans _ _ _ h.lines k.lines;
  terms = IsPermutation-trans _ _ _ h.terms k.terms;
}

-- the contents that memory may have come from those that it had
pub comes_from : (K L : Content) (Change : Content → Content → Type 0)
    → ((d : Content) → AreSame L d → Change K d)
    → Comes (rows_in_memory K) (rows_in_memory L) Change
comes_from K L Change h = record {
  quiet = λ quiet. quiet;
  some = λ quiet none c held. none L (same_itself L);
  from = λ quiet d held. (K, same_itself K, h d held);
}

pub comes_by : (K L : Content) (f : Content → Content) → AreSame L (f K)
    → Comes (rows_in_memory K) (rows_in_memory L) (λ c d. AreSame (f c) d)
comes_by K L f same = comes_from K L (λ c d. AreSame (f c) d)
    (λ d held. same_then (f K) L d (same_back _ _ same) held)

-- one more posting on both sides
pub same_posted : (c d : Content) (row : PostingRow) (e : Entry) (changes : Changes) → AreSame c d
    → AreSame (with_posted row e changes c) (with_posted row e changes d)
same_posted c d row e changes h = record {
  setup = h.setup;
  meta = h.meta;
  postings = IsPermutation-cons row _ _ h.postings;
  spots = IsPermutation-append_right (map spot_row (reverse changes.spots)) _ _ h.spots;
  lines = put_each_same is_same_line (map line_row changes.lines) c.lines d.lines h.lines;
  terms = with_term_same (term_of e) c.terms d.terms h.terms;
}

-- a list in another order, and reversed
pub turned_same : {X : Type 0} (xs ys : List X) → IsPermutation xs ys
    → IsPermutation (reverse xs) (reverse ys)
turned_same xs ys h = IsPermutation-trans _ _ _ (IsPermutation-sym _ _ (IsPermutation-reverse xs))
    (IsPermutation-trans _ _ _ h (IsPermutation-reverse ys))

none_more : {X : Type 0} (xs : List X) → IsPermutation [] xs → xs ≡ []
none_more [] h = refl
none_more (x ∷ xs) h = absurd (omega (arith, length_permutation _ _ h))

not_new : (meta : List MetaRow) → IsPermutation (rows_of_meta 12) meta → is_new meta ≡ false
not_new [] h = absurd (omega (arith, length_permutation _ _ h))
not_new (row ∷ rows) h = refl

-- a register in memory of these fields
abbrev pub content_of : Option (Vec (String Global) Global) → List KeptEntry → List NewSpot
    → List NewLine → List TermRow → Content
content_of texts postings spots lines terms = record {
  setup = numbered (reverse (texts_of texts));
  meta = meta_of texts;
  postings = map kept_row postings;
  spots = map spot_row spots;
  lines = map line_row lines;
  terms = terms;
}

-- it accepts a setup if it is new or has this one
pub bound_kept : (S : Museum) (o : Option (Vec (String Global) Global))
    (texts : Vec (String Global) Global) (postings : List KeptEntry) (spots : List NewSpot)
    (lines : List NewLine) (terms : List TermRow) (K d : Content)
    → map string_bytes texts.items ≡ setup_rows S
    → MatchOption o (Unit {0}) (λ old. map string_bytes old.items ≡ map string_bytes
    texts.items) → K ≡ content_of o postings spots lines terms → AreSame K d
    → AreSame (content_of (Some texts) postings spots lines terms) (bound_to S d)
bound_kept S None texts postings spots lines terms K d rows fits is h =
    let same : AreSame (content_of None postings spots lines terms) d =
    subst (λ (c : Content). AreSame c d) is h in
    let new : is_new d.meta ≡ true = ap is_new (none_more d.meta same.meta) in
    subst (λ b. AreSame (content_of (Some texts) postings spots lines terms) (bound_by b S d))
    (sym new) (record {
      setup = subst (λ l. IsPermutation (numbered (reverse l)) (rows_of_setup S)) (sym rows)
          (IsPermutation-refl (rows_of_setup S));
      meta = IsPermutation-refl (rows_of_meta 12);
      postings = same.postings;
      spots = same.spots;
      lines = same.lines;
      terms = same.terms;
    })
bound_kept S (Some old) texts postings spots lines terms K d rows fits is h =
    let same : AreSame (content_of (Some old) postings spots lines terms) d =
    subst (λ (c : Content). AreSame c d) is h in
    subst (λ b. AreSame (content_of (Some texts) postings spots lines terms) (bound_by b S d))
    (sym (not_new d.meta same.meta)) (record {
      setup = subst (λ l. IsPermutation (numbered (reverse l)) d.setup) fits same.setup;
      meta = same.meta;
      postings = same.postings;
      spots = same.spots;
      lines = same.lines;
      terms = same.terms;
    })

-- it is bound
pub bound_now : (S : Museum) (texts : Vec (String Global) Global) (postings : List KeptEntry)
    (spots : List NewSpot) (lines : List NewLine) (terms : List TermRow) (d : Content)
    → map string_bytes texts.items ≡ setup_rows S
    → AreSame (content_of (Some texts) postings spots lines terms) d → IsBoundTo S 12 d
bound_now S texts postings spots lines terms d rows h =
    record {
      setup = subst (λ l. IsPermutation (numbered (reverse l)) d.setup) rows h.setup;
      meta = h.meta;
      limit = refl;
    }

-- it has another setup
pub other_setup : (S : Museum) (old texts : Vec (String Global) Global) (postings : List KeptEntry)
    (spots : List NewSpot) (lines : List NewLine) (terms : List TermRow) (K d : Content)
    → map string_bytes texts.items ≡ setup_rows S
    → (map string_bytes old.items ≡ map string_bytes texts.items → ⊥)
    → K ≡ content_of (Some old) postings spots lines terms → AreSame K d
    → IsBindFault S d OtherSetup
other_setup S old texts postings spots lines terms K d rows differ is h =
    let same : AreSame (content_of (Some old) postings spots lines terms) d =
    subst (λ (c : Content). AreSame c d) is h in (
      (12, refl, same.meta),
      λ alike. differ
          (sym (one_setup (setup_rows S) (map string_bytes old.items)
          (IsPermutation-trans _ _ _ alike (IsPermutation-sym _ _ same.setup))) ∙ sym rows),
    )

-- the comparison of the setups in `bind`
pub refused_setup : (S : Museum) (o : Option (Vec (String Global) Global))
    (texts : Vec (String Global) Global) (items : List (String Global)) (postings : List KeptEntry)
    (spots : List NewSpot) (lines : List NewLine) (terms : List TermRow)
    (K d : Content) (r : Bool) → map string_bytes texts.items ≡ setup_rows S → items ≡ texts.items
    → MatchOption o (r ≡ true) (λ old. Decides r
    (map string_bytes old.items ≡ map string_bytes items)) → r ≡ false
    → K ≡ content_of o postings spots lines terms → AreSame K d → IsBindFault S d OtherSetup
refused_setup S None texts items postings spots lines terms K d r rows at told differs is h =
    absurd (true≢false (sym told ∙ differs))
refused_setup S (Some old) texts items postings spots lines terms K d r rows at told differs is h =
    other_setup S old texts postings spots lines terms K d rows
    (λ e. not_from_Decides r told differs (e ∙ ap (map string_bytes) (sym at))) is h

pub fitted : (o : Option (Vec (String Global) Global)) (texts : Vec (String Global) Global)
    (items : List (String Global)) (r : Bool) → items ≡ texts.items
    → MatchOption o (r ≡ true) (λ old. Decides r
    (map string_bytes old.items ≡ map string_bytes items)) → r ≡ true
    → MatchOption o (Unit {0}) (λ old. map string_bytes old.items ≡ map string_bytes
    texts.items)
fitted None texts items r at told fits = tt
fitted (Some old) texts items r at told fits = told.0 fits ∙ ap (map string_bytes) at

-- one more posting at the end of the rows
pub posted_same : (o : Option (Vec (String Global) Global)) (ps more : List KeptEntry)
    (ss longer : List NewSpot) (ls new_ls : List NewLine) (ts new_ts : List TermRow)
    (row : KeptEntry) (e : Entry) (changes : Changes) (K d : Content)
    → more ≡ ps ++ row ∷ [] → longer ≡ ss ++ changes.spots
    → IsPermutation new_ls (put_each has_same_key changes.lines ls)
    → IsPermutation new_ts (with_term (term_of e) ts)
    → K ≡ content_of o (reverse ps) (reverse ss) ls ts → AreSame K d
    → AreSame (content_of o (reverse more) (reverse longer) new_ls new_ts)
    (with_posted (kept_row row) e changes d)
posted_same o ps more ss longer ls new_ls ts new_ts row e changes K d pushed extended lined
    dated is h =
    let same : AreSame (content_of o (reverse ps) (reverse ss) ls ts) d =
    subst (λ (c : Content). AreSame c d) is h in
    record {
      setup = same.setup;
      meta = same.meta;
      postings = subst (λ l. IsPermutation (map kept_row l) (kept_row row ∷ d.postings))
          (sym (ap reverse pushed ∙ reverse-append ps (row ∷ [])))
          (IsPermutation-cons (kept_row row) _ _ same.postings);
      spots = subst (λ l. IsPermutation l (map spot_row (reverse changes.spots) ++ d.spots))
          (sym (ap (λ l. map spot_row (reverse l)) extended ∙ ap (map spot_row)
          (reverse-append ss changes.spots) ∙ map-append spot_row (reverse changes.spots)
          (reverse ss)))
          (IsPermutation-append_right (map spot_row (reverse changes.spots)) _ _ same.spots);
      lines = IsPermutation-trans _ _ _
          (subst (IsPermutation (map line_row new_ls))
          (put_mapped has_same_key is_same_line line_row keyed_rows changes.lines ls)
          (map-IsPermutation line_row _ _ lined))
          (put_each_same is_same_line (map line_row changes.lines) (map line_row ls) d.lines
          same.lines);
      terms = IsPermutation-trans _ _ _ dated (with_term_same (term_of e) ts d.terms same.terms);
    }

-- more room alone leaves the content as it was
pub left_as_was : {T E : Type 0} (r : Result T E) (Q : Content → Content → Type 0)
    (o : Option (Vec (String Global) Global)) (ps ps' : List KeptEntry) (ss ss' : List NewSpot)
    (ks ks' : List (LineKey × LineStage)) (ts ts' : List (List ℕ × ℤ)) (K L : Content)
    → K ≡ content_of o (reverse ps) (reverse ss) (held_lines ks) (term_rows ts)
    → L ≡ content_of o (reverse ps') (reverse ss') (held_lines ks') (term_rows ts') → ps' ≡ ps
    → ss' ≡ ss → ks' ≡ ks → ts' ≡ ts
    → OnErr r (Comes (rows_in_memory K) (rows_in_memory L) (λ c d. AreSame c d ⊎ Q c d))
left_as_was (Ok x) Q o ps ps' ss ss' ks ks' ts ts' K L is now p s k t = tt
left_as_was (Err e) Q o ps ps' ss ss' ks ks' ts ts' K L is now p s k t =
    let same : L ≡ K = now ∙ rw (p, s, k, t) (sym is) in
    comes_from K L (λ c d. AreSame c d ⊎ Q c d)
    (λ d h. inl (subst (λ (c : Content). AreSame c d) same h))

-- the same rows in another order are the same content
pub reordered : (o : Option (Vec (String Global) Global)) (ps ps' : List KeptEntry)
    (ss ss' : List NewSpot) (lines : List NewLine) (terms : List TermRow) (K d : Content)
    → IsPermutation ps ps' → IsPermutation ss ss'
    → K ≡ content_of o (reverse ps) (reverse ss) lines terms
    → AreSame K d ↔ AreSame (content_of o (reverse ps') (reverse ss') lines terms) d
reordered o ps ps' ss ss' lines terms K d p s is =
    let now : AreSame (content_of o (reverse ps) (reverse ss) lines terms)
    (content_of o (reverse ps') (reverse ss') lines terms) = record {
      setup = IsPermutation-refl _;
      meta = IsPermutation-refl _;
      postings = map-IsPermutation kept_row _ _ (turned_same ps ps' p);
      spots = map-IsPermutation spot_row _ _ (turned_same ss ss' s);
      lines = IsPermutation-refl _;
      terms = IsPermutation-refl _;
    } in (
      λ h. same_then _ _ _ (same_back _ _ now) (subst (λ (c : Content). AreSame c d) is h),
      λ h. subst (λ (c : Content). AreSame c d) (sym is) (same_then _ _ _ now h),
    )

-- why its rows are no list of entries
pub listed_fault : (r : Result (Vec Entry Global) StoreFault) (stations stations' : ℕ)
    (rows items : List KeptEntry) (o : Option (Vec (String Global) Global)) (spots : List NewSpot)
    (lines : List NewLine) (terms : List TermRow) → stations' ≡ stations → items ≡ rows
    → IsNonDecreasingBy (λ row. row.id) rows
    → IfErr r (λ fault. fault ≢ NoMemory → (at : ℕ) × (fault ≡ Damaged at)
    × IsWrongAt stations at (map kept_row items))
    → IfErr r (λ fault. Each (rows_in_memory (content_of o (reverse rows) spots lines terms))
    (λ d. IsListFault stations' d fault))
listed_fault (Ok entries) stations stations' rows items o spots lines terms st at order wrong = tt
listed_fault (Err NoMemory) stations stations' rows items o spots lines terms st at order wrong =
    λ quiet d h. tt
listed_fault (Err Store) stations stations' rows items o spots lines terms st at order wrong =
    λ quiet d h. tt
listed_fault (Err OtherSetup) stations stations' rows items o spots lines terms st at order wrong =
    absurd (let w = wrong (λ e. cc) in let e = w.1 in cc)
listed_fault (Err OtherVersion) stations stations' rows items o spots lines terms st at order
    wrong = absurd (let w = wrong (λ e. cc) in let e = w.1 in cc)
listed_fault (Err (Damaged i)) stations stations' rows items o spots lines terms st at order wrong =
    λ quiet d h.
    let w = wrong (λ e. cc) in
    let e = w.1 in
    let same : w.0 ≡ i = cc in
    let first : IsWrongAt stations' i (map kept_row rows) =
    subst (λ l. IsWrongAt stations' i (map kept_row l)) at
    (subst (λ n. IsWrongAt n i (map kept_row items)) (sym st)
    (subst (λ n. IsWrongAt stations n (map kept_row items)) same w.2)) in
    record {
      rows = map kept_row rows;
      all = IsPermutation-trans _ _ _
          (map-IsPermutation kept_row _ _ (IsPermutation-reverse rows)) h.postings;
      order =
          in_order rows order;
      first = first;
    }

-- whether all wanted values are kept, by their rows
pairs_told : {A R : Type 0} (row : A → R) (pair : R → A) → ((a : A) → pair (row a) ≡ a)
    → (r : Bool) (wanted kept : List A) (rows held : List R) → map row wanted ≡ rows
    → Decides r (IsPermutation wanted kept)
    → IsPermutation (map row kept) held → Decides r (IsPermutation rows held)
pairs_told row pair back r wanted kept rows held is told same = (
  λ yes. subst (λ l. IsPermutation l held) is
      (IsPermutation-trans _ _ _ (map-IsPermutation row wanted kept (told.0 yes)) same),
  λ alike.
      let rowed : IsPermutation (map row wanted) (map row kept) =
      IsPermutation-trans _ _ _ (subst (λ l. IsPermutation l held) (sym is) alike)
      (IsPermutation-sym _ _ same) in
      told.1 (subst (λ l. IsPermutation l kept) (map_back row pair back wanted)
      (subst (IsPermutation (map pair (map row wanted))) (map_back row pair back kept)
      (map-IsPermutation pair _ _ rowed))),
)

-- the spot of a row, and the line of a row
abbrev spot_in : SpotRow → NewSpot
spot_in r = record {
  thing = nat_abs r.thing;
  k = nat_abs r.k;
  spot = record { entry = nat_abs r.entry; place = nat_abs r.place; day = r.day };
}

abbrev stage_in : ℕ → LineStage
stage_in n = get_or (Awaiting ∷ Away ∷ Back ∷ Here ∷ GivenBack ∷ []) n Awaiting

numbered_back : (s : LineStage) → stage_in (stage_number s) ≡ s
numbered_back Awaiting = refl
numbered_back Away = refl
numbered_back Back = refl
numbered_back Here = refl
numbered_back GivenBack = refl

abbrev line_in : LineRow → LineKey × LineStage
line_in r = let key : LineKey = record { loan = r.loan; object = nat_abs r.object } in
    (key, stage_in (nat_abs r.stage))

pub told_by : (a b c : Bool) (S : Museum) (P : List Entry) (wanted sorted : List NewSpot)
    (lines kept_lines : List (LineKey × LineStage)) (terms kept_terms : List (List ℕ × ℤ))
    (o : Option (Vec (String Global) Global))
    (postings : List KeptEntry) (d : Content) → wanted ≡ spots_by_thing S P
    → held_lines lines ≡ lines_by_loan S P → term_rows terms ≡ rows_of_terms P
    → Decides a (IsPermutation wanted sorted) → Decides b (IsPermutation lines kept_lines)
    → Decides c (IsPermutation terms kept_terms)
    → AreSame (content_of o postings (reverse sorted) (held_lines kept_lines)
    (term_rows kept_terms)) d → Decides (a && (b && c)) (HasRows S P d)
told_by a b c S P wanted sorted lines kept_lines terms kept_terms o postings d is lined dated
    has_spots has_lines has_terms h =
    let key_row : LineKey × LineStage → LineRow =
    λ e. line_row (record { loan = e.0.loan; object = e.0.object; stage = e.1 }) in
    let written : IsPermutation (map spot_row wanted) (rows_of_spots S P) =
    subst (λ l. IsPermutation (map spot_row l) (rows_of_spots S P)) (sym is)
    (map-IsPermutation spot_row _ _ (looking_back S P)) in
    let kept : IsPermutation (map spot_row sorted) d.spots =
    IsPermutation-trans _ _ _ (map-IsPermutation spot_row _ _
    (IsPermutation-reverse sorted)) h.spots in
    let by_thing : Decides a (IsPermutation (map spot_row wanted) d.spots) =
    pairs_told spot_row spot_in (λ s. refl) a wanted sorted (map spot_row wanted) d.spots refl
    has_spots kept in
    let of_spots : Decides a (IsPermutation (rows_of_spots S P) d.spots) = (
      λ yes. IsPermutation-trans _ _ _ (IsPermutation-sym _ _ written) (by_thing.0 yes),
      λ has. by_thing.1 (IsPermutation-trans _ _ _ written has),
    ) in
    let of_lines : Decides b (IsPermutation (rows_of_lines S P) d.lines) =
    pairs_told key_row line_in (λ e. ap (λ s. (e.0, s)) (numbered_back e.1)) b lines kept_lines
    (rows_of_lines S P) d.lines (sym (map-map line_row _ lines) ∙ ap (map line_row)
    lined) has_lines
    (subst (λ l. IsPermutation l d.lines) (map-map line_row _ kept_lines) h.lines) in
    let of_terms : Decides c (IsPermutation (rows_of_terms P) d.terms) =
    pairs_told (λ e. let t : TermRow = record { loan = e.0; day = e.1 } in t) (λ t. (t.loan, t.day))
    (λ e. refl) c terms kept_terms (rows_of_terms P) d.terms dated has_terms h.terms in (
      λ yes. let first = and_parts a (b && c) yes in let rest = and_parts b c first.1 in
          record {
            spots = of_spots.0 first.0;
            lines = of_lines.0 rest.0;
            terms = of_terms.0 rest.1;
          },
      λ has. rw (of_spots.1 has.spots, of_lines.1 has.lines, of_terms.1 has.terms) refl,
    )
