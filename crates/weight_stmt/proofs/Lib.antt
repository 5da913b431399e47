mod StmtViews
mod TestSteps
