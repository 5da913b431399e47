-- Ranges of points by their ends. Behind each point b one range may begin: it has the points from suc b up to
-- the number that a list has at b, and is empty where that is b or less. So it covers a point q where b < q and
-- q is at most that number.
use Rattle.std.specs.Prelude.{◌≡◌, ℕ, suc, ◌<◌, ◌≤◌, List, length, get_or}
use Rattle.range_cover.specs.declared.covering.Covers.{Covers}

-- each range ends at a point of the list
abbrev pub AreEnds : List ℕ → Type 0
AreEnds far = (b : ℕ) → b < length far → get_or far b 0 < length far

-- of the ranges that cover q, first is the first point of the one that begins last; 0 where none covers it
pub record IsInnermost (far : List ℕ) (q first : ℕ) : Type 0 where
  pub small : first ≤ q
  pub last : (b : ℕ) → b < q → q ≤ get_or far b 0 → b < first
  pub covers : (b : ℕ) → first ≡ suc b → q ≤ get_or far b 0

-- a range that covers q and ends at a point
pub record Covering (far : List ℕ) (q end : ℕ) : Type 0 where
  pub begin : ℕ
  pub before : begin < q
  pub is_end : get_or far begin 0 ≡ end

-- of the ranges that cover q, last is the end of the one that ends first; the number of points where none covers it
pub record IsSoonest (far : List ℕ) (q last : ℕ) : Type 0 where
  pub low : q ≤ last
  pub high : last ≤ length far
  pub first : (b : ℕ) → b < q → q ≤ get_or far b 0 → last ≤ get_or far b 0
  pub covers : last < length far → Covering far q last

-- what covers the points of a list
pub record AreCovers (far : List ℕ) (c : Covers) : Type 0 where
  pub firsts_long : length c.firsts.items ≡ length far
  pub lasts_long : length c.lasts.items ≡ suc (length far)
  pub firsts : (q : ℕ) → q < length far → IsInnermost far q (get_or c.firsts.items q 0)
  pub lasts : (q : ℕ) → q ≤ length far → IsSoonest far q (get_or c.lasts.items q 0)

-- ---- ranges by their ends

-- a range that ends at a point e, and begins first of those
pub record BeginsAt (far : List ℕ) (e near : ℕ) : Type 0 where
  pub begin : ℕ
  pub is_first : suc begin ≡ near
  pub is_end : get_or far begin 0 ≡ e

-- of the ranges behind the points from one on that end at e, near is the first point of the one that begins
-- first; behind e where there is none
pub record IsNear (far : List ℕ) (from e near : ℕ) : Type 0 where
  pub first : (b : ℕ) → from ≤ b → b < e → get_or far b 0 ≡ e → near ≤ suc b
  pub begins : near ≤ e → BeginsAt far e near

abbrev pub AreNear : List ℕ → ℕ → List ℕ → Type 0
AreNear far from nears = (e : ℕ) → e < length far → IsNear far from e (get_or nears e 0)
