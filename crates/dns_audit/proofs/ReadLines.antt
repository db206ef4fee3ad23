-- A line that is read has the words that would be written, but that its names may be spelled in another way.
use Rattle.std.proofs.Common.{◌≡◌, ℕ, Bool, true, List, [], ◌∷◌, ◌++◌, map, codes, None, Some, refl, sym, ap, subst, ◌∙◌, inl, inr, append-nil}
use Rattle.std.specs.Fmt.{decimal}
use Rattle.std.specs.List.{list_all}
use Rattle.std.proofs.lemmas.Option.{same_Some}
use Rattle.dns_model.specs.Names.{Labels}
use Rattle.dns_model.specs.NameText.{printed}
use Rattle.dns_model.specs.Records.{Rr}
use Rattle.dns_model.specs.Chains as trust
use Rattle.dns_model.specs.Chains.{LinkValue}
use Rattle.dns_model.specs.declared.proof.Proof.{Proof}
use Rattle.dns_model.specs.declared.denial.Denial.{Denial}
use Rattle.dns_model.specs.declared.denial.Denial.TheVariants as denial
use Rattle.dns_model.specs.declared.section.Section.{Section}
use Rattle.dns_text.specs.Words.{octets_word, name_word_in}
use Rattle.dns_text.specs.Codes.{type_word_in, class_word_in}
use Rattle.dns_session.specs.Lines.{Words, single, triple}
use Rattle.dns_report.specs.LineWords.{mark_word, section_word, denial_words}
use Rattle.dns_report.specs.Fields.{is_u16}
use Rattle.dns_report.specs.View.{Numbered, numbered, shown_link, fitting_record, fitting_key, fitting_link}
use Rattle.dns_report.specs.Report.{key_words}
use Rattle.dns_text.proofs.LineShapes.{Line}
use Rattle.dns_report.proofs.ReportLines.{record_of, link_of}
use Rattle.dns_audit.specs.ReportWords.{u32_in, rdata_in, mark_in}
use Rattle.dns_audit.specs.LineParts.{each_in, quintuple, sextuple, first_of, two_of, six_of}
use Rattle.dns_audit.specs.ReportLines.{marked, denial_by, whole, anchored_in, matched_in, numbered_key, numbered_in, key_set_in, signed_in, link_by}
use Rattle.dns_audit.specs.Written.{short_key, short_link, short_record}
use Rattle.dns_audit.specs.Respelled.{Respells, WordsRespell}
use Rattle.dns_audit.proofs.WordCounts.{after_from, first_is, quintuple_is, sextuple_is, single_is, six_is, triple_is, two_is}
use Rattle.dns_audit.proofs.FromSteps.{made, by_word}
use Rattle.dns_audit.proofs.ReadFields.{small_from, number_from, type_read_from, class_read_from, rdata_from, name_from}
use Rattle.dns_audit.proofs.ReadWords.{mark_from, rdatas_from}
use Rattle.dns_audit.proofs.WrittenForms.{code_by, denial_words_by, record_then, record_by, link_words}

-- words of a text respell a line, and what they say fits and is short
pub record Says (ws : Words) (l : Line) (is_fit is_small : Bool) : Type 0 where
  pub alike : WordsRespell ws (l.0 ∷ l.1)
  pub fits : is_fit ≡ true
  pub short : is_small ≡ true

pub same_words : (ws : Words) → WordsRespell ws ws
same_words [] = tt
same_words (w ∷ ws) = (inl refl, same_words ws)

pub words_as : (ws vs us : Words) → ws ≡ vs → WordsRespell vs us → WordsRespell ws us
words_as ws vs us e h = subst (λ (t : Words). WordsRespell t us) (sym e) h

-- words that are those written
pub words_are : (ws vs : Words) → ws ≡ vs → WordsRespell ws vs
words_are ws vs e = words_as ws vs vs e (same_words vs)

pub named : (word : List ℕ) (name : Labels) → name_word_in word ≡ Some name → Respells word (printed name)
named word name h = inr (record { name = name; spells = h; prints = refl })

-- ---- an answer's lines

pub code_from : (ws : Words) (code : ℕ) → code_by ws ≡ Some code
    → WordsRespell ws (codes "code" ∷ decimal code ∷ []) × (is_u16 code ≡ true)
code_from ws code h =
    let a = after_from (codes "code") ws _ code h in
    let w = made (single a.rest) _ code a.gives in
    let n = small_from w.value code w.gives in (
      words_are ws (codes "code" ∷ decimal code ∷ [])
          (a.is ∙ ap (λ vs. codes "code" ∷ vs) (single_is a.rest w.value w.was ∙ ap (λ v. v ∷ []) n.0)),
      n.1,
    )

-- words in front of others: where the others respell some, these and the others respell more
pub record Front (ws rest front : Words) : Type 0 where
  pub alike : (tail : Words) → WordsRespell rest tail → WordsRespell ws (front ++ tail)

-- a mark after a kind
pub record MarkAfter {X : Type 0} (made_of : Proof → X) (ws : Words) (out : X × Words) : Type 0 where
  pub mark : Proof
  pub is : ws ≡ mark_word mark ∷ out.1
  pub value : made_of mark ≡ out.0

pub marked_from : {X : Type 0} (made_of : Proof → X) (ws : Words) (out : X × Words) → marked made_of ws ≡ Some out
    → MarkAfter made_of ws out
marked_from {X} made_of ws out h =
    let front = made (first_of ws) _ out h in
    let mark = made (mark_in front.value.0) _ out front.gives in
    let same : ◌≡◌ {A = X × Words} (made_of mark.value, front.value.1) out = same_Some _ out mark.gives in
    record {
      mark = mark.value;
      is = first_is ws front.value front.was ∙ ap (λ w. w ∷ front.value.1) (mark_from front.value.0 mark.value mark.was)
          ∙ ap (λ (o : X × Words). mark_word mark.value ∷ o.1) same;
      value = ap (λ (o : X × Words). o.0) same;
    }

-- the words of a value, in front of others
abbrev FrontOf : {X : Type 0} → (X → Words) → List ℕ → Words → X × Words → Type 0
FrontOf words_of kind ws out = Front (kind ∷ ws) out.1 (words_of out.0)

pub word_front : (kind word : List ℕ) (ws : Words) → kind ≡ word → Front (kind ∷ ws) ws (word ∷ [])
word_front kind word ws e = record { alike = λ tail h. (inl e, h) }

pub mark_front : (kind word : List ℕ) (ws rest : Words) (mark : Proof) → kind ≡ word → ws ≡ mark_word mark ∷ rest
    → Front (kind ∷ ws) rest (word ∷ mark_word mark ∷ [])
mark_front kind word ws rest mark e is = record {
  alike = λ tail h. (inl e, words_as ws (mark_word mark ∷ rest) (mark_word mark ∷ tail) is (inl refl, h));
}

pub denial_front : (kind : List ℕ) (ws : Words) (out : Denial × Words) → denial_by kind ws ≡ Some out
    → FrontOf denial_words kind ws out
denial_front kind ws out h =
    elim (by_word kind (codes "none") (Some (denial.None, ws)) _ out h) [
      | inl e ↦ subst (FrontOf denial_words kind ws) (same_Some (denial.None, ws) out e.1)
          (word_front kind (codes "none") ws e.0)
      | inr a ↦
          elim (by_word kind (codes "absent") (marked denial.Absent ws) _ out a) [
            | inl e ↦
                let m = marked_from denial.Absent ws out e.1 in
                subst (λ (d : Denial). Front (kind ∷ ws) out.1 (denial_words d)) m.value
                (mark_front kind (codes "absent") ws out.1 m.mark e.0 m.is)
            | inr b ↦
                elim (by_word kind (codes "expanded") (marked denial.Expanded ws) None out b) [
                  | inl e ↦
                      let m = marked_from denial.Expanded ws out e.1 in
                      subst (λ (d : Denial). Front (kind ∷ ws) out.1 (denial_words d)) m.value
                      (mark_front kind (codes "expanded") ws out.1 m.mark e.0 m.is)
                  | inr none ↦ cc
                ]
          ]
    ]

whole_is : {X : Type 0} (x y : X) (ws : Words) → whole x ws ≡ Some y → (ws ≡ []) × (x ≡ y)
unfolding whole
whole_is x y [] h = (refl, same_Some x y h)
whole_is x y (w ∷ ws) h = cc

pub denial_from : (ws : Words) (d : Denial) → denial_words_by ws ≡ Some d
    → WordsRespell ws (codes "denial" ∷ denial_words d)
denial_from ws d h =
    let a = after_from (codes "denial") ws _ d h in
    let front = made (first_of a.rest) _ d a.gives in
    let read = made (denial_by front.value.0 front.value.1) _ d front.gives in
    let end = whole_is read.value.0 d read.value.1 read.gives in
    let rest : WordsRespell read.value.1 [] = words_are read.value.1 [] end.0 in
    let f = denial_front front.value.0 front.value.1 read.value read.was in
    let all : WordsRespell (front.value.0 ∷ front.value.1) (denial_words read.value.0 ++ []) = f.alike [] rest in
    let back : denial_words read.value.0 ++ [] ≡ denial_words d = append-nil (denial_words read.value.0)
    ∙ ap denial_words end.1 in
    words_as ws (codes "denial" ∷ front.value.0 ∷ front.value.1) (codes "denial" ∷ denial_words d)
    (a.is ∙ ap (λ vs. codes "denial" ∷ vs) (first_is a.rest front.value front.was))
    (inl refl, subst (WordsRespell (front.value.0 ∷ front.value.1)) back all)

abbrev RecordSays : Section → Words → Rr → Type 0
RecordSays section ws r = Says ws (record_of section r) (fitting_record r) (short_record r)

pub record_from : (section : Section) (ws : Words) (r : Rr) → record_by section ws ≡ Some r → RecordSays section ws r
record_from section ws r h =
    let a = after_from (section_word section) ws record_then r h in
    let f = made (sextuple a.rest) _ r a.gives in
    let owner = made (name_word_in f.value.0) _ r f.gives in
    let class = made (class_word_in f.value.1) _ r owner.gives in
    let rtype = made (type_word_in f.value.2) _ r class.gives in
    let ttl = made (u32_in f.value.3) _ r rtype.gives in
    let mark = made (mark_in f.value.4) _ r ttl.gives in
    let rdata = made (rdata_in f.value.5) _ r mark.gives in
    let n = name_from f.value.0 owner.value owner.was in
    let c = class_read_from f.value.1 class.value class.was in
    let t = type_read_from f.value.2 rtype.value rtype.was in
    let s = number_from f.value.3 ttl.value ttl.was in
    let m = mark_from f.value.4 mark.value mark.was in
    let d = rdata_from f.value.5 rdata.value rdata.was in
    let is = a.is ∙ ap (λ vs. section_word section ∷ vs) (sextuple_is a.rest f.value f.was) in
    let it : Rr = record {
      owner = owner.value;
      rtype = rtype.value;
      class = class.value;
      ttl = ttl.value;
      rdata = rdata.value;
      proof = mark.value;
    } in
    subst (RecordSays section ws) (same_Some it r rdata.gives)
    (record {
      alike = words_as ws _ (section_word section ∷ (record_of section it).1) is (
        inl refl,
        (
          named f.value.0 owner.value owner.was,
          (inl c.0, (inl t.0, (inl s.0, (inl m, (inl d.word_is, tt))))),
        ),
      );
      fits = rw (n, c.1, t.1, s.1) d.bytes_are;
      short = d.short;
    })

-- ---- links

abbrev LinkSays : Words → LinkValue → Type 0
LinkSays ws l = Says ws (link_of (shown_link l)) (fitting_link (shown_link l)) (short_link (shown_link l))

link_as : (ws vs : Words) (l : LinkValue) → ws ≡ vs → LinkSays vs l → LinkSays ws l
link_as ws vs l e h = subst (λ (t : Words). LinkSays t l) (sym e) h

anchored_from : (ws : Words) (l : LinkValue) → anchored_in ws ≡ Some l → LinkSays (codes "anchored" ∷ ws) l
anchored_from ws l h =
    let f = made (triple ws) _ l h in
    let owner = made (name_word_in f.value.0) _ l f.gives in
    let class = made (class_word_in f.value.1) _ l owner.gives in
    let key = made (rdata_in f.value.2) _ l class.gives in
    let n = name_from f.value.0 owner.value owner.was in
    let c = class_read_from f.value.1 class.value class.was in
    let k = rdata_from f.value.2 key.value key.was in
    let it = trust.Anchored owner.value class.value key.value in
    subst (LinkSays (codes "anchored" ∷ ws)) (same_Some it l key.gives)
    (record {
      alike = words_as (codes "anchored" ∷ ws) _ (codes "anchored" ∷ (link_of (shown_link it)).1)
          (ap (λ vs. codes "anchored" ∷ vs) (triple_is ws f.value f.was))
          (inl refl, (named f.value.0 owner.value owner.was, (inl c.0, (inl k.word_is, tt))));
      fits = rw (n, c.1) k.bytes_are;
      short = k.short;
    })

matched_from : (ws : Words) (l : LinkValue) → matched_in ws ≡ Some l → LinkSays (codes "matched" ∷ ws) l
matched_from ws l h =
    let f = made (quintuple ws) _ l h in
    let owner = made (name_word_in f.value.0) _ l f.gives in
    let class = made (class_word_in f.value.1) _ l owner.gives in
    let key = made (rdata_in f.value.2) _ l class.gives in
    let ds_link = made (u32_in f.value.3) _ l key.gives in
    let ds = made (rdata_in f.value.4) _ l ds_link.gives in
    let n = name_from f.value.0 owner.value owner.was in
    let c = class_read_from f.value.1 class.value class.was in
    let k = rdata_from f.value.2 key.value key.was in
    let p = number_from f.value.3 ds_link.value ds_link.was in
    let d = rdata_from f.value.4 ds.value ds.was in
    let it = trust.Matched owner.value class.value key.value ds_link.value ds.value in
    subst (LinkSays (codes "matched" ∷ ws)) (same_Some it l ds.gives)
    (record {
      alike = words_as (codes "matched" ∷ ws) _ (codes "matched" ∷ (link_of (shown_link it)).1)
          (ap (λ vs. codes "matched" ∷ vs) (quintuple_is ws f.value f.was)) (
            inl refl,
            (
              named f.value.0 owner.value owner.was,
              (inl c.0, (inl k.word_is, (inl p.0, (inl d.word_is, tt)))),
            ),
          );
      fits = rw (n, c.1, k.bytes_are, p.1) d.bytes_are;
      short = rw k.short d.short;
    })

-- what is read of the keys of a set, and of the numbers of their links
record KeysRead (ws : Words) (keys : List Numbered) : Type 0 where
  words_are : ws ≡ key_words keys
  fits : list_all fitting_key keys ≡ true
  short : list_all short_key keys ≡ true

numbered_from : (ws : Words) (out : List ℕ × List (List ℕ)) → numbered_in ws ≡ Some out
    → KeysRead ws (numbered out.1 out.0)
unfolding numbered_in numbered_key key_words numbered
numbered_from [] out h =
    subst (λ (o : List ℕ × List (List ℕ)). KeysRead [] (numbered o.1 o.0)) (same_Some ([], []) out h)
    (record { words_are = refl; fits = refl; short = refl })
numbered_from (number ∷ []) out h = cc
numbered_from (number ∷ word ∷ ws) out h =
    let pair = made (numbered_key number (word ∷ ws)) _ out h in
    let others = made (numbered_in ws) _ out pair.gives in
    let link = made (u32_in number) _ pair.value pair.was in
    let key = made (rdata_in word) _ pair.value link.gives in
    let same : ◌≡◌ {A = ℕ × List ℕ × Words} (link.value, key.value, ws) pair.value = same_Some _ pair.value key.gives in
    let n = number_from number link.value link.was in
    let k = rdata_from word key.value key.was in
    let ih = numbered_from ws others.value others.was in
    let rest = numbered others.value.1 others.value.0 in
    let all : KeysRead (number ∷ word ∷ ws) ((link.value, key.value) ∷ rest) = record {
      words_are = ap (λ w. w ∷ word ∷ ws) n.0 ∙ ap (λ w. decimal link.value ∷ w ∷ ws) k.word_is
          ∙ ap (λ vs. decimal link.value ∷ octets_word key.value ∷ vs) ih.words_are;
      fits = rw (n.1, k.bytes_are) ih.fits;
      short = rw k.short ih.short;
    } in
    let kept : KeysRead (number ∷ word ∷ ws) ((pair.value.0, pair.value.1) ∷ rest) =
    subst (λ (p : ℕ × List ℕ × Words). KeysRead (number ∷ word ∷ ws) ((p.0, p.1) ∷ rest)) same all in
    subst (λ (o : List ℕ × List (List ℕ)). KeysRead (number ∷ word ∷ ws) (numbered o.1 o.0))
    (same_Some _ out others.gives) kept

key_set_from : (ws : Words) (l : LinkValue) → key_set_in ws ≡ Some l → LinkSays (codes "keyset" ∷ ws) l
key_set_from ws l h =
    let f = made (two_of ws) _ l h in
    let owner = made (name_word_in f.value.0) _ l f.gives in
    let class = made (class_word_in f.value.1) _ l owner.gives in
    let keys = made (numbered_in f.value.2) _ l class.gives in
    let n = name_from f.value.0 owner.value owner.was in
    let c = class_read_from f.value.1 class.value class.was in
    let k = numbered_from f.value.2 keys.value keys.was in
    let it = trust.KeySet owner.value class.value keys.value.1 keys.value.0 in
    subst (LinkSays (codes "keyset" ∷ ws)) (same_Some it l keys.gives)
    (record {
      alike = words_as (codes "keyset" ∷ ws) _ (codes "keyset" ∷ (link_of (shown_link it)).1)
          (ap (λ vs. codes "keyset" ∷ vs) (two_is ws f.value f.was)) (
            inl refl,
            (
              named f.value.0 owner.value owner.was,
              (inl c.0, words_are f.value.2 (key_words (numbered keys.value.1 keys.value.0)) k.words_are),
            ),
          );
      fits = rw (n, c.1) k.fits;
      short = k.short;
    })

signed_from : (ws : Words) (l : LinkValue) → signed_in ws ≡ Some l → LinkSays (codes "signed" ∷ ws) l
signed_from ws l h =
    let f = made (six_of ws) _ l h in
    let owner = made (name_word_in f.value.0) _ l f.gives in
    let class = made (class_word_in f.value.1) _ l owner.gives in
    let rtype = made (type_word_in f.value.2) _ l class.gives in
    let link = made (u32_in f.value.3) _ l rtype.gives in
    let key = made (rdata_in f.value.4) _ l link.gives in
    let sig = made (rdata_in f.value.5) _ l key.gives in
    let rdatas = made (each_in rdata_in f.value.6) _ l sig.gives in
    let n = name_from f.value.0 owner.value owner.was in
    let c = class_read_from f.value.1 class.value class.was in
    let t = type_read_from f.value.2 rtype.value rtype.was in
    let p = number_from f.value.3 link.value link.was in
    let k = rdata_from f.value.4 key.value key.was in
    let s = rdata_from f.value.5 sig.value sig.was in
    let d = rdatas_from f.value.6 rdatas.value rdatas.was in
    let it = trust.Signed owner.value class.value rtype.value rdatas.value sig.value link.value key.value in
    subst (LinkSays (codes "signed" ∷ ws)) (same_Some it l rdatas.gives)
    (record {
      alike = words_as (codes "signed" ∷ ws) _ (codes "signed" ∷ (link_of (shown_link it)).1)
          (ap (λ vs. codes "signed" ∷ vs) (six_is ws f.value f.was)) (
            inl refl,
            (
              named f.value.0 owner.value owner.was,
              (
                inl c.0,
                (
                  inl t.0,
                  (
                    inl p.0,
                    (
                      inl k.word_is,
                      (inl s.word_is, words_are f.value.6 (map octets_word rdatas.value) d.words_are),
                    ),
                  ),
                ),
              ),
            ),
          );
      fits = rw (n, c.1, t.1, p.1, k.bytes_are, s.bytes_are) d.bytes_are;
      short = rw (k.short, s.short) d.short;
    })

link_kind : (kind : List ℕ) (ws : Words) (l : LinkValue) → link_by kind ws ≡ Some l → LinkSays (kind ∷ ws) l
unfolding link_by
link_kind kind ws l h =
    elim (by_word kind (codes "anchored") (anchored_in ws) _ l h) [
      | inl e ↦ link_as (kind ∷ ws) (codes "anchored" ∷ ws) l (ap (λ w. w ∷ ws) e.0) (anchored_from ws l e.1)
      | inr a ↦
          elim (by_word kind (codes "matched") (matched_in ws) _ l a) [
            | inl e ↦ link_as (kind ∷ ws) (codes "matched" ∷ ws) l (ap (λ w. w ∷ ws) e.0) (matched_from ws l e.1)
            | inr b ↦
                elim (by_word kind (codes "keyset") (key_set_in ws) _ l b) [
                  | inl e ↦ link_as (kind ∷ ws) (codes "keyset" ∷ ws) l (ap (λ w. w ∷ ws) e.0) (key_set_from ws l e.1)
                  | inr c ↦
                      elim (by_word kind (codes "signed") (signed_in ws) None l c) [
                        | inl e ↦ link_as (kind ∷ ws) (codes "signed" ∷ ws) l (ap (λ w. w ∷ ws) e.0)
                            (signed_from ws l e.1)
                        | inr none ↦ cc
                      ]
                ]
          ]
    ]

pub link_from : (ws : Words) (l : LinkValue) → link_words ws ≡ Some l → LinkSays ws l
link_from ws l h =
    let front = made (first_of ws) _ l h in
    link_as ws (front.value.0 ∷ front.value.1) l (first_is ws front.value front.was)
    (link_kind front.value.0 front.value.1 l front.gives)
