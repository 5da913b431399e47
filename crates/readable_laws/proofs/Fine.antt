-- Parts of walks in the sense of terms that meet readable terms alone, as long as the calls that they make have readable answers.
-- Each check that is met allows for one call more.
use Rattle.std.proofs.Common.{◌≡◌, ℕ, suc, ◌+◌, ◌<◌, ◌≤◌, ◌^◌, Bool, true, false, cond, List, [], ◌∷◌, ◌++◌, length, refl, ap, ◌∙◌, subst, arith}
use Rattle.std.specs.List.{AllByRecursion}
use Rattle.formula.specs.declared.definition.Heading.{Heading}
use Rattle.formula.specs.ReadableTerms.{IsReadableTerm}
use Rattle.formula.specs.Tree.{Tree}
use Rattle.fort_syntax.specs.declared.condition.Kind.{Kind}
use Rattle.fort_model.specs.Events.{Event, Check, Take, checks, takes}
use Rattle.fort_model.specs.Seen.{Answers, Seen, See, ◌>>=◌, ◌>>◌, see, meet}
use Rattle.readable_laws.proofs.Made.{NamesFine}

-- how many checks stand among events
abbrev pub checks_in : List (Event Tree) → ℕ
checks_in [] = 0
checks_in (Check kind card t ∷ es) = suc (checks_in es)
checks_in (Take t ∷ es) = checks_in es

pub checks_append : (es fs : List (Event Tree)) → checks_in (es ++ fs) ≡ checks_in es + checks_in fs
checks_append [] fs = none (checks_in fs)
  where
    none : (n : ℕ) → n ≡ 0 + n
    none n = omega arith
checks_append (Check kind card t ∷ es) fs = ap suc (checks_append es fs) ∙ one (checks_in es) (checks_in fs)
  where
    one : (m n : ℕ) → suc (m + n) ≡ suc m + n
    one m n = omega arith
checks_append (Take t ∷ es) fs = checks_append es fs

pub no_checks : (ts : List Tree) (es : List (Event Tree)) → checks_in (takes ts ++ es) ≡ checks_in es
no_checks [] es = refl
no_checks (t ∷ ts) es = no_checks ts es

pub some_check : (kind : Kind) (card : ℕ) (ts : List Tree) (es : List (Event Tree)) → 0 < length ts → 1 ≤ checks_in (checks kind card ts ++ es)
some_check kind card [] es h = absurd (omega arith)
some_check kind card (t ∷ ts) es h = omega arith

module _ (hs : List Heading) where
  abbrev pub R : Tree → Type 0
  R t = IsReadableTerm hs t

  abbrev pub Each : List Tree → Type 0
  Each ts = AllByRecursion (IsReadableTerm hs) ts

  -- a check's card and term can be read back, and so can a fact
  abbrev pub EventFine : Event Tree → Type 0
  EventFine (Check kind card t) = (card < 2 ^ 32) × IsReadableTerm hs t
  EventFine (Take t) = IsReadableTerm hs t

  abbrev pub EventsFine : List (Event Tree) → Type 0
  EventsFine es = AllByRecursion EventFine es

  pub events_append : (es fs : List (Event Tree)) → EventsFine es → EventsFine fs → EventsFine (es ++ fs)
  events_append [] fs h k = k
  events_append (e ∷ es) fs h k = (h.0, events_append es fs h.1 k)

  pub checks_fine : (kind : Kind) (card : ℕ) (ts : List Tree) → card < 2 ^ 32 → Each ts → EventsFine (checks kind card ts)
  checks_fine kind card [] c h = tt
  checks_fine kind card (t ∷ ts) c h = ((c, h.0), checks_fine kind card ts c h.1)

  pub takes_fine : (ts : List Tree) → Each ts → EventsFine (takes ts)
  takes_fine [] h = tt
  takes_fine (t ∷ ts) h = (h.0, takes_fine ts h.1)

  pub each_append : (ts us : List Tree) → Each ts → Each us → Each (ts ++ us)
  each_append [] us h k = k
  each_append (t ∷ ts) us h k = (h.0, each_append ts us h.1 k)

  -- the first answers of calls are readable
  abbrev pub AnswersFine : ℕ → Answers Tree → Type 0
  AnswersFine n ps = (i : ℕ) → i < n → NamesFine hs (ps i)

  pub fewer : (n m : ℕ) (ps : Answers Tree) → m ≤ n → AnswersFine n ps → AnswersFine m ps
  fewer n m ps le h i lt = h i (omega arith)

  pub record SeenFine {A : Type 0} (Q : A → Type 0) (m : ℕ) (s : Seen Tree A) : Type 0 where
    pub value : Q s.value
    pub events : EventsFine s.events
    pub rest : AnswersFine m s.rest

  -- where as many calls have readable answers as there are checks, and m more, all that is met is readable, and m answers are left
  abbrev pub Fine : {A : Type 0} → (A → Type 0) → See Tree A → Type 0
  Fine Q part = (m : ℕ) (ps : Answers Tree) → AnswersFine (checks_in (part ps).events + m) ps → SeenFine Q m (part ps)

  abbrev pub Any : {A : Type 0} → A → Type 0
  Any a = Unit {0}

  pub fine_then : {A B : Type 0} (Q : A → Type 0) (P : B → Type 0) (part : See Tree A) (next : A → See Tree B) → Fine Q part → ((a : A) → Q a → Fine P (next a)) → Fine P (part >>= next)
  fine_then Q P part next first rest m ps h =
      let a : Seen Tree _ = part ps in
      let b : Seen Tree _ = next a.value a.rest in
      let count : checks_in (a.events ++ b.events) + m ≡ checks_in a.events + (checks_in b.events + m) = ap (λ (n : ℕ). n + m) (checks_append a.events b.events) ∙ nested (checks_in a.events) (checks_in b.events) m in
      let one = first (checks_in b.events + m) ps (subst (λ (n : ℕ). AnswersFine n ps) count h) in
      let two = rest a.value one.value m a.rest one.rest in
      record { value = two.value; events = events_append a.events b.events one.events two.events; rest = two.rest }
    where
      nested : (k l n : ℕ) → (k + l) + n ≡ k + (l + n)
      nested k l n = omega arith

  pub fine_before : {A B : Type 0} (Q : A → Type 0) (P : B → Type 0) (part : See Tree A) (next : See Tree B) → Fine Q part → Fine P next → Fine P (part >> next)
  fine_before Q P part next first rest = fine_then Q P part (λ _. next) first (λ a q. rest)

  pub fine_see : {A : Type 0} (Q : A → Type 0) (a : A) → Q a → Fine Q (see a)
  fine_see Q a q m ps h = record { value = q; events = tt; rest = fewer (0 + m) m ps (omega arith) h }

  pub fine_meet : (es : List (Event Tree)) → EventsFine es → Fine Any (meet es)
  fine_meet es k m ps h = record { value = tt; events = k; rest = fewer (checks_in es + m) m ps (omega arith) h }

  pub fine_cond : {A : Type 0} (Q : A → Type 0) (b : Bool) (x y : See Tree A) → (b ≡ true → Fine Q x) → (b ≡ false → Fine Q y) → Fine Q (cond b x y)
  fine_cond Q true x y h k = h refl
  fine_cond Q false x y h k = k refl

  pub pick_fine : (b : Bool) (t u : Tree) → R t → R u → R (cond b t u)
  pick_fine true t u h k = h
  pick_fine false t u h k = k
