use Rattle.std.proofs.Common.{◌≡◌, ◌≤◌, length, take}
use Rattle.path_cut.specs.Courses.{all_left, left_of, work_of}
use Rattle.path_cut.proofs.course.Course.advance.Given as goal

abbrev pub invariant-loop-self : goal.invariant-loop-self
invariant-loop-self l =
    (all_left l.flow l.self l.self.stage ≡ left_of l.flow l.fn.self) × (l.self.shared ≤ length l.self.steps.items) × (l.self.shared ≤ length l.fn.self.steps.items)
    × (take l.self.shared l.self.steps.items ≡ take l.self.shared l.fn.self.steps.items)

abbrev pub decreases-loop-self : goal.decreases-loop-self
decreases-loop-self l = work_of l.flow l.self l.self.stage
