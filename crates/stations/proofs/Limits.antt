-- The limits that sizes keep which fit.
use Rattle.std.proofs.Common.{◌≡◌, ℕ, ◌+◌, ◌≤◌, true, ◌&&◌, leb}
use Rattle.std.proofs.lemmas.Bool.{leb-true, and_parts}
use Rattle.stations.specs.declared.opening.Opening.{Opening}
use Rattle.stations.specs.Openings.{within, tables_fit, sets_fit, fits}

pub record Limits (o : Opening) : Type 0 where
  pub members : o.members ≤ 512
  pub batches : o.batches ≤ 64
  pub watchers : o.watchers ≤ 512
  pub followers : o.followers ≤ 512
  pub phaser_slots : o.phaser_slots ≤ 1024
  pub barrier_slots : o.barrier_slots ≤ 1024

within_most : (most n : ℕ) → within most n ≡ true → n ≤ most
within_most most n h = leb-true n most (and_parts (leb 1 n) (leb n most) h).1

pub limits : (o : Opening) → fits o ≡ true → Limits o
limits o h =
    let both = and_parts (tables_fit o) (sets_fit o) h in
    let m = and_parts (within 512 o.members) (within 64 o.batches && (within 512 o.watchers && within 512 o.followers)) both.0 in
    let b = and_parts (within 64 o.batches) (within 512 o.watchers && within 512 o.followers) m.1 in
    let w = and_parts (within 512 o.watchers) (within 512 o.followers) b.1 in
    let p = leb (o.members + o.watchers) o.phaser_slots in
    let q = leb o.followers o.barrier_slots in
    let s = and_parts (p && leb o.phaser_slots 1024) (q && leb o.barrier_slots 1024) both.1 in
    record {
      members = within_most 512 o.members m.0;
      batches = within_most 64 o.batches b.0;
      watchers = within_most 512 o.watchers w.0;
      followers = within_most 512 o.followers w.1;
      phaser_slots = leb-true o.phaser_slots 1024 (and_parts p (leb o.phaser_slots 1024) s.0).1;
      barrier_slots = leb-true o.barrier_slots 1024 (and_parts q (leb o.barrier_slots 1024) s.1).1;
    }
